-- The buffer by value: 128 bytes, of which the first are in use. Assumes nothing.
use Rattle.std.specs.Prelude.{ℕ, ◌+◌, ◌-◌, List, ◌++◌, leb, length, take}
use Rattle.octets.specs.declared.buffer.Buffer.{Buffer}
use Rattle.octets.specs.Choice.{pick}
use Rattle.octets.specs.Bytes.{zeros, paste}

-- how many bytes a buffer has room for
abbrev pub capacity : ℕ
capacity = 128

-- the bytes in use
abbrev pub content : Buffer → List ℕ
content b = take b.len b.bytes

-- the buffer whose bytes in use are x, and the others zero
abbrev pub holding : List ℕ → Buffer
holding x = record { bytes = x ++ zeros (capacity - length x); len = length x }

-- the buffer with p after its bytes in use; unchanged where p doesn't fit
unfoldable pub appended : Buffer → List ℕ → Buffer
appended b p =
    pick (leb (b.len + length p) capacity)
    (record { bytes = paste b.bytes b.len p; len = b.len + length p })
    b

-- how many bytes of x are copied to the front of an area: all, or none where they don't fit
abbrev pub copied : List ℕ → List ℕ → ℕ
copied x area = pick (leb (length x) (length area)) (length x) 0
