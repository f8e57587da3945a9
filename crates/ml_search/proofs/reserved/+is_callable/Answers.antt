use Rattle.std.proofs.Common.{◌≢◌, length, ap, sym, ◌∙◌, arith}
use Rattle.std.proofs.lemmas.List.{length-map}
use Rattle.ml_term.specs.Seen.{seen, all_seen}
use Rattle.ml_term.proofs.CompoundTrees.{seen_compound}
use Rattle.ml_search.specs.Bodies.{is_callable}
use Rattle.ml_search.proofs.CallableCompounds.{other_count}
use Rattle.ml_search.proofs.reserved.+is_callable.Goals as goal

pub returns-in_default : goal.returns-in_default
returns-in_default t c =
    let f = c.in-Cmp.f in
    let ts = c.in-Cmp.ts in
    let other : length (all_seen ts) ≢ 2 = λ e. omega (arith, e, length-map ts seen, ap length c.as_slice.ensures.same, c.in_default.len_below) in
    sym (ap is_callable (ap seen c.in-Cmp.is ∙ seen_compound f ts) ∙ other_count f (all_seen ts) other)

pub returns-in_default-3 : goal.returns-in_default-3
returns-in_default-3 t c =
    let f = c.in-Cmp.f in
    let ts = c.in-Cmp.ts in
    let other : length (all_seen ts) ≢ 2 = λ e. omega (arith, e, length-map ts seen, ap length c.as_slice.ensures.same, c.in_default.len_at_least) in
    sym (ap is_callable (ap seen c.in-Cmp.is ∙ seen_compound f ts) ∙ other_count f (all_seen ts) other)
