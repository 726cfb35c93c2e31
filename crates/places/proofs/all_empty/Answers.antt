-- `all_empty` meets its contract: each set is empty exactly when all masks are 0.
use Rattle.std.proofs.Common.{rules, tests, ◌≡◌, length, eqb}
use Rattle.std.proofs.lemmas.Iterator.{YieldsList-from_slice}
use Rattle.std.proofs.lemmas.Iterator.Search.{all_from_yields_List}
use Rattle.std.specs.List.{list_all}
use Rattle.meaning.specs.Limits.{max_functions}
use Rattle.masks.specs.Sets.{mask}
use Rattle.places.proofs.PlaceLaws.{empty_masks}
use Rattle.places.proofs.all_empty.Goals as goal

pub returns : goal.returns
unfolding max_functions
returns c =
    let long : length c.args.sets ≡ max_functions = search rules in
    let answer : c.all.result ≡ list_all (λ s. eqb (mask s) 0) c.args.sets =
    all_from_yields_List _ _ _ _ c.all.ensures.ran (YieldsList-from_slice c.args.sets c.iter.ensures.rest) (λ x b q k. search (rules, tests)) in
    rw answer (empty_masks c.args.sets max_functions long)
