use Rattle.std.proofs.Common.{◌≡◌, ◌<◌, ◌≤◌, ◌+◌, ◌∙◌, ap, sym, subst, length, take, get_or, [], Bool, List, ℕ, true, false, arith}
use Rattle.std.specs.Prelude.{◌&&◌, Option}
use Rattle.std.specs.List.{list_any}
use Rattle.std.proofs.lemmas.List.{length-map, take_all}
use Rattle.ml_bits.specs.BitList.{BitList}
use Rattle.ml_locks.specs.Modes.{held_in}
use Rattle.ml_locks.specs.Requests.{IsFirst, excludes, prefixes_of}
use Rattle.ml_locks.specs.inside.Waiting.{is_first}
use Rattle.ml_locks.proofs.FirstUnit.{first_step, found_in, found_within, none_passes}
use Rattle.ml_locks.proofs.file_locks.FileLocks.first_in_way.Goals as goal

pub loop-i-preserved : goal.loop-i-preserved
loop-i-preserved c =
    let us : List (List Bool) = prefixes_of c.args.prefixes.now in
    let test = λ (u : List Bool). excludes (held_in c.args.self.now c.args.holder u) c.args.mode in
    let i = c.loop-i.i in
    let l : i < length us = omega (arith, length-map c.args.prefixes.now (λ (p : BitList). p.bits)) in
    record {
      first = subst (λ (r : Option ℕ). IsFirst test (take (i + 1) us) (found_in us r)) (sym c.first_of-first.ensures)
          (first_step test us i c.loop-i.first l c.loop-i.invariant.first);
      within = λ j e. found_within (test (get_or us i []) && is_first us i c.loop-i.first) i
          (length c.args.prefixes.now) c.loop-i.first c.loop-i.invariant.within c.loop-i-test.true j
          (sym c.first_of-first.ensures ∙ e);
    }

pub unreachable-requires : goal.unreachable-requires
unreachable-requires c =
    let us : List (List Bool) = prefixes_of c.args.prefixes.now in
    let test = λ (u : List Bool). excludes (held_in c.args.self.now c.args.holder u) c.args.mode in
    let long : length us ≤ c.loop-i.i = omega (arith, length-map c.args.prefixes.now (λ (p : BitList). p.bits)) in
    let none = none_passes test (take c.loop-i.i us) (subst (λ (r : Option ℕ). IsFirst test (take c.loop-i.i us)
    (found_in us r)) c.in-None.is c.loop-i.invariant.first) in
    clash _ (ap (list_any test) (sym (take_all c.loop-i.i us long)) ∙ none) c.requires
  where
    clash : (b : Bool) → b ≡ false → b ≡ true → ⊥
    clash true e f = cc
    clash false e f = cc
