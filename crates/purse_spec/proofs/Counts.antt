-- Document 01, "Stores", of every call: what a limit does to memory, which count is reported, and when a run is cut. A call is taken as
-- a function of its limit. Assumes nothing.
use mathlib.Core.List.{List}
use mathlib.Core.Logic.{◌≢◌}
use mathlib.Core.Path.{◌≡◌, refl, sym, ap, ◌∙◌}
use Prim.Native.Nat.{ℕ, suc, ◌≤◌, ◌<◌}
use native.Mathlib.Omega.{arith}
use lib.ListN.{length, get_or}
use Rattle.stores.specs.Stores.{Store, answers}
use Rattle.stores.specs.Limits.{least_limit}
use Rattle.stores.proofs.Plans.{leaves-length}
use Rattle.stores.proofs.Limits.{limit_zero, limit_one_byte, limit_enough, answers-done, seven_cut, zero_done, not_seven_done, reports_limit, reports-count}
use Rattle.stores.proofs.Least.{least-plan, least-same}
use Rattle.session.specs.declared.Session.{Session}
use Rattle.purse_spec.specs.Calls.{Run, refusal}
use Rattle.purse_spec.specs.History.{Call, Situation, limited, OfBytes, run, session_for, area_for}
use Rattle.purse_spec.proofs.Performed.{Follows, performed_follows}
use Rattle.purse_spec.proofs.Runs.{AnyRefusal}
use Rattle.purse_spec.proofs.EveryCall.{every_call}
use Rattle.purse_spec.proofs.Promised.{Typed}

-- ---- a call is one refusal at every limit, or the stores of one plan

-- a call f on memory m
pub data Shape (m : List ℕ) (f : ℕ → Run) : Type 0 where
  one_refusal : (n : ℕ) → 1 ≤ n → n ≤ 6 → (s : Session) (area : List ℕ) → ((L : ℕ) → f L ≡ refusal n s m area) → Shape m f
  one_plan : (p : List Store) → length p ≤ 65535 → ((L : ℕ) → Follows p L m (f L)) → Shape m f

refused_shape : (m : List ℕ) (s : Session) (area : List ℕ) → AnyRefusal (Shape m) s m area
refused_shape m s area n k l = one_refusal n k l s area (λ L. refl)

-- every call
pub shape : (x : Call) (st : Situation) → Typed st → OfBytes x → Shape st.memory (λ L. run (limited L x) st)
shape x st t f =
    every_call x st (Shape st.memory) (refused_shape st.memory (session_for x st) (area_for x))
    (λ p s reply k. one_plan p (k t f).few (λ L. performed_follows p L st.memory s reply (area_for x)))

-- ---- the laws

-- of a call f on memory m
pub record Stored (m : List ℕ) (f : ℕ → Run) : Type 0 where
  -- "No run answers 7 at limit 65,535 or above"
  pub never : (L : ℕ) → 65535 ≤ L → (f L).answer ≢ 7
  -- "Limit 0 leaves memory untouched"
  pub untouched : (f 0).memory ≡ m
  -- "Raising the limit by one changes at most one byte of what memory holds afterwards", and memory keeps its length
  pub one_byte : (L : ℕ) → (a : ℕ) × ((i : ℕ) → i ≢ a → get_or (f (suc L)).memory i 0 ≡ get_or (f L).memory i 0)
  pub long : (L : ℕ) → length (f L).memory ≡ length m
  -- "The reported store count of a finished run is the least limit that doesn't answer 7"
  pub least : (L : ℕ) → (f L).answer ≡ 0 → ((f L).count ≡ least_limit (λ K. (f K).answer)) × (least_limit (λ K. (f K).answer) ≤ L)
  -- "and memory then equals that of any larger limit"
  pub larger : (L : ℕ) → (f L).answer ≡ 0 → (K : ℕ) → (f L).count ≤ K → (f K).memory ≡ (f L).memory
  -- "Answer 7 reports its limit", which is below that count
  pub seven : (L : ℕ) → (f L).answer ≡ 7 → ((f L).count ≡ L) × (L < least_limit (λ K. (f K).answer))
  -- "1 to 6 .. report 0"
  pub refused : (L : ℕ) → (f L).answer ≢ 0 → (f L).answer ≢ 7 → (f L).count ≡ 0

shape_stored : (m : List ℕ) (f : ℕ → Run) → Shape m f → Stored m f
unfolding refusal
shape_stored m f (one_refusal n k l s area h) =
    let a : (L : ℕ) → (f L).answer ≡ n = λ L. ap (λ (r : Run). r.answer) (h L) in
    let b : (L : ℕ) → (f L).memory ≡ m = λ L. ap (λ (r : Run). r.memory) (h L) in
    record {
      never = λ L q z. omega (arith, a L);
      untouched = b 0;
      one_byte = λ L. (0, λ i q. ap (λ (y : List ℕ). get_or y i 0) (b (suc L) ∙ sym (b L)));
      long = λ L. ap length (b L);
      least = λ L z. absurd (omega (arith, a L));
      larger = λ L z K q. b K ∙ sym (b L);
      seven = λ L z. absurd (omega (arith, a L));
      refused = λ L y z. ap (λ (r : Run). r.count) (h L);
    }
shape_stored m f (one_plan p b h) =
    let n : length p ≡ least_limit (λ K. (f K).answer) = sym (least-plan p b) ∙ least-same (answers p) (λ K. (f K).answer) (λ K. sym (h K).answer) in
    let done : (L : ℕ) → (f L).answer ≡ 0 → answers p L ≡ 0 = λ L z. sym (h L).answer ∙ z in
    let counted : (L : ℕ) → (f L).answer ≡ 0 → (f L).count ≡ length p = λ L z. (h L).count ∙ reports-count p L (done L z) in
    let cut : (L : ℕ) → (f L).answer ≡ 7 → answers p L ≡ 7 = λ L z. sym (h L).answer ∙ z in
    record {
      never = λ L q z. omega (arith, seven_cut p L (cut L z));
      untouched = (h 0).memory ∙ limit_zero p m;
      one_byte = λ L.
          let w = limit_one_byte p L m in
          (w.0, λ i q. ap (λ (y : List ℕ). get_or y i 0) (h (suc L)).memory ∙ w.1 i q ∙ ap (λ (y : List ℕ). get_or y i 0) (sym (h L).memory));
      long = λ L. ap length (h L).memory ∙ leaves-length p L m;
      least = λ L z. let k = zero_done p L (done L z) in (counted L z ∙ n, omega (arith, n));
      larger = λ L z K q.
          let k = counted L z in
          let l = zero_done p L (done L z) in
          (h K).memory ∙ limit_enough p K m (omega arith) ∙ sym ((h L).memory ∙ limit_enough p L m l);
      seven = λ L z.
          let k = seven_cut p L (cut L z) in
          ((h L).count ∙ reports_limit p L (cut L z), omega (arith, n));
      refused = λ L y z. absurd (y ((h L).answer ∙ answers-done p L (not_seven_done p L (λ q. z ((h L).answer ∙ q)))));
    }

-- of every call
pub stores_law : (x : Call) (st : Situation) → (typed : Typed st) → (given : OfBytes x) → Stored st.memory (λ L. run (limited L x) st)
stores_law x st t f = shape_stored st.memory (λ L. run (limited L x) st) (shape x st t f)
