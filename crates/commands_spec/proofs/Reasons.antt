-- Rows of tests and rows of reasons: a status word found by tests is that of the first reason that holds. Assumes nothing.
use mathlib.Core.Bool.{Bool, true, false, not, ◌&&◌, false≢true}
use mathlib.Core.Path.{◌≡◌, refl, sym, ap, ◌∙◌}
use Prim.Native.Nat.{ℕ}
use native.Mathlib.Omega.{arith}
use borrow.Author.Tests.{eqb-true}
use lib.Dec.{ltb, eqb}
use Rattle.octets.specs.Choice.{pick, refuse}
use Rattle.card.specs.declared.head.KeySet.{KeySet}
use Rattle.card.specs.declared.head.Head.{Head}
use Rattle.session.specs.declared.Set.{Set}
use Rattle.session.specs.declared.Set.TheVariants.{Debit, Credit, Admin}
use Rattle.session.specs.declared.Level.{Level}
use Rattle.session.specs.declared.Session.{Session}
use Rattle.session.specs.Access.{access, access_of, has_rmac, is_open, ADMIN}
use Rattle.commands_spec.specs.declared.outcome.Outcome.{Outcome}
use Rattle.commands_spec.specs.KeySets.{key_set_of, dek_of}
use Rattle.commands_spec.specs.Outcomes.{refused, decided}
use Rattle.commands_spec.specs.Allowed.{Numbered, first, second, third, LevelOf, with_cmac, with_rmac}
use Rattle.commands_spec.specs.Order.{Rule, refuses, passes, NotAdmin}

-- ---- a row of tests and a row of reasons

module _ {R : ℕ → Type 0} where
  -- a test that holds exactly where its reason does
  pub row : {P : Type 0} (b : Bool) (w rest : ℕ) → (b ≡ true → P) → (P → b ≡ true) → R rest → Rule P w R (refuse b w rest)
  row true w rest f g r = refuses (f refl)
  row false w rest f g r = passes (λ p. false≢true (g p)) r

  -- the reason is that a flag isn't set
  pub unset : (b : Bool) (w rest : ℕ) → R rest → Rule (b ≡ false) w R (refuse (not b) w rest)
  unset true w rest r = passes (λ p. false≢true (sym p)) r
  unset false w rest r = refuses refl

  -- the reason is that something doesn't hold which a test tells
  pub lacking : {P : Type 0} (b : Bool) (w rest : ℕ) → (b ≡ true → P) → (P → b ≡ true) → R rest → Rule (P → ⊥) w R (refuse (not b) w rest)
  lacking true w rest f g r = passes (λ n. n (f refl)) r
  lacking false w rest f g r = refuses (λ p. false≢true (g p))

-- the status word of a command that its rules judged
pub judged-word : (w : ℕ) (h : Head) (s : Session) (o : Outcome) → o.status ≡ 0x9000 → (decided w h s o).status ≡ w
unfolding decided refused
judged-word w h s o e = go (eqb w 0x9000) refl
  where
    go : (b : Bool) → eqb w 0x9000 ≡ b → (pick b o (refused h s w)).status ≡ w
    go true p = e ∙ sym (eqb-true w 0x9000 p)
    go false p = refl

pub and_is : (a b : Bool) → (a ≡ true) × (b ≡ true) → (a && b) ≡ true
and_is true true e = refl
and_is true false e = absurd (false≢true e.1)
and_is false b e = absurd (false≢true e.0)

-- what isn't false is true
pub not_refuted : (b : Bool) → (b ≡ false → ⊥) → b ≡ true
not_refuted true n = refl
not_refuted false n = absurd (n refl)

-- the status word of a choice
pub pick_word : (b : Bool) (o u : Outcome) → (pick b o u).status ≡ refuse b o.status u.status
pick_word true o u = refl
pick_word false o u = refl

-- ---- levels and access

-- level 11 is what has an R-MAC
pub rmac_level : (set : Set) (p : ℕ) (l : Level) → LevelOf set p l → (has_rmac l ≡ true → p ≡ 0x11) × (p ≡ 0x11 → has_rmac l ≡ true)
unfolding has_rmac
rmac_level set p l with_cmac = (λ e. absurd (false≢true e), λ e. absurd (omega arith))
rmac_level set p l with_rmac = (λ e. refl, λ e. refl)

-- an open channel's access is its set's
pub set-access : (set : Set) (p : ℕ) (l : Level) → LevelOf set p l → (access l ≡ access_of set) × (is_open l ≡ true)
unfolding access is_open
set-access set p l with_cmac = (refl, refl)
set-access set p l with_rmac = (refl, refl)

-- ADMIN is set 3's alone
pub admin_tells : (set : Set) → (ltb (access_of set) ADMIN ≡ true → NotAdmin set) × (NotAdmin set → ltb (access_of set) ADMIN ≡ true)
unfolding access_of
admin_tells Debit = (λ e n. let z : ◌≡◌ {A = ℕ} 0 1 = cc in omega arith, λ n. refl)
admin_tells Credit = (λ e n. let z : ◌≡◌ {A = ℕ} 0 1 = cc in omega arith, λ n. refl)
admin_tells Admin = (λ e n. false≢true e, λ n. absurd (n refl))

-- the DEK of an open channel is that of its set
pub set-dek : {h : Head} {k : KeySet} {n : ℕ} {set : Set} {p : ℕ} {l : Level} → Numbered h k n set → LevelOf set p l → dek_of l h ≡ k.keys.dek
unfolding dek_of key_set_of
set-dek {h = h} {k = k} (first e) with_cmac = ap (λ (x : KeySet). x.keys.dek) (sym e)
set-dek {h = h} {k = k} (first e) with_rmac = ap (λ (x : KeySet). x.keys.dek) (sym e)
set-dek {h = h} {k = k} (second e) with_cmac = ap (λ (x : KeySet). x.keys.dek) (sym e)
set-dek {h = h} {k = k} (second e) with_rmac = ap (λ (x : KeySet). x.keys.dek) (sym e)
set-dek {h = h} {k = k} (third e) with_cmac = ap (λ (x : KeySet). x.keys.dek) (sym e)
set-dek {h = h} {k = k} (third e) with_rmac = ap (λ (x : KeySet). x.keys.dek) (sym e)

-- a channel of set 3 is open at either level, has access ADMIN, and its DEK is that of set 3
pub admin_channel : (p1 : ℕ) (l : Level) (h : Head) → LevelOf Admin p1 l
    → (is_open l ≡ true) × (access l ≡ ADMIN) × (dek_of l h ≡ h.shared.admin.dek)
unfolding is_open access access_of dek_of key_set_of
admin_channel p1 l h with_cmac = (refl, refl, refl)
admin_channel p1 l h with_rmac = (refl, refl, refl)
