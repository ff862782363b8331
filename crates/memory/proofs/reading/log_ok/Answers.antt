-- log_ok: the records that were made decide.
use borrow.Author.Tests.{tests}
use Rattle.std.proofs.Common.{rules}
use Rattle.std.proofs.lemmas.Iterator.{YieldsList-from_range}
use Rattle.std.proofs.lemmas.Iterator.Search.{all_from_yields_List}
use Rattle.card.specs.Log.{record_in}
use Rattle.card.specs.Proper.{record_ok}
use Rattle.memory.proofs.InPlace.{slot_of, log_by}
use Rattle.memory.proofs.reading.log_ok.Goals as goal

pub returns : goal.returns
returns c =
    let m = c.args.memory.now in
    let b = c.personalized_in-personalized.result in
    rw (← c.personalized_in-personalized.ensures, log_by m b c.min-made.result (search rules))
    (all_from_yields_List (λ k. record_ok b (record_in (slot_of m k))) _ _ c.all.result c.all.ensures.ran (YieldsList-from_range 0 c.min-made.result _ (search rules) (search rules)) (λ x b q k. search (rules, tests)))
