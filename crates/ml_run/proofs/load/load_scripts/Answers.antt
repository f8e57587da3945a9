use Rattle.std.proofs.Common.{◌≡◌, ◌<◌, ◌+◌, ◌++◌, ◌∷◌, [], ℕ, suc, List, length, get_or, take, drop, Ok, refl, ap, ◌∙◌, subst, length-append, arith}
use Rattle.std.specs.Borrow.{Bor}
use Rattle.std.proofs.Math.ListN.{get_or-map}
use Rattle.std.proofs.Math.Seq.{split_at}
use Rattle.std.proofs.lemmas.List.{length-map, map-append, take_more, take_all}
use Rattle.std.proofs.lemmas.Option.{IfSome_then}
use Rattle.std.proofs.lemmas.Result.{err_from_is_err_and}
use Rattle.ml_search.specs.ProgramSeen.{script_seen}
use Rattle.ml_run.specs.Outcomes.{ScriptsCome}
use Rattle.ml_run.specs.inside.Seen.{scripts_seen}
use Rattle.ml_run.specs.Words.{texts}
use Rattle.ml_run.proofs.RefusalCauses.{no_script_stops}
use Rattle.ml_run.proofs.ScriptsInTurn.{all_come, script_stops, each_more}
use Rattle.ml_run.proofs.load.load_scripts.Goals as goal

abbrev nothing : Bor (List ℕ)
nothing = record { ref_ptr = (0, 0); now = [] }

as_many : (names : List (Bor (List ℕ))) (i : ℕ) → i < length names → i < length (texts names)
as_many names i lt = omega (arith, lt, length-map names (λ word. word.now))

parts : (names : List (Bor (List ℕ))) (i : ℕ) → i < length names →
    texts names ≡ take i (texts names) ++ (get_or names i nothing).now ∷ drop (suc i) (texts names)
parts names i lt =
    split_at (texts names) i [] (as_many names i lt)
    ∙ ap (λ name. take i (texts names) ++ name ∷ drop (suc i) (texts names)) (get_or-map (λ word. word.now) names i nothing)

one_more : (names : List (Bor (List ℕ))) (i : ℕ) → i < length names → take (i + 1) (texts names) ≡ take i (texts names) ++ (get_or names i nothing).now ∷ []
one_more names i lt =
    take_more (texts names) i [] (as_many names i lt) ∙ ap (λ name. take i (texts names) ++ name ∷ []) (get_or-map (λ word. word.now) names i nothing)

pub returns-in_err-script-clause-err : goal.returns-in_err-script-clause-err
returns-in_err-script-clause-err g c =
    let p = err_from_is_err_and c.from_residual.result c.from_residual.ensures.1 in
    let names = c.args.names.now in
    let stopped = rw c.loop-i.invariant.held at c.in_err-script.ensures.err in
    rw (p.1, p.2)
    (script_stops (g.S.Shelf.held c.args.shelf.now) (texts names) c.loop-i.i (c.loop-i.i + 1)
    (scripts_seen c.loop-i.scripts.items) _ _ _ _ c.in_err-script.field-0.0
    (as_many names c.loop-i.i c.loop-i-test.true) (parts names c.loop-i.i c.loop-i-test.true) refl c.loop-i.invariant.later c.loop-i.invariant.each stopped)

pub returns-in_err-push-clause-err : goal.returns-in_err-push-clause-err
returns-in_err-push-clause-err g c =
    let p = err_from_is_err_and c.from_residual-in_err-push.result c.from_residual-in_err-push.ensures.1 in
    let names = c.args.names.now in
    let i = c.loop-i.i in
    let ss = scripts_seen c.loop-i.scripts.items in
    rw (p.1, p.2) (no_script_stops (g.S.Shelf.held c.args.shelf.now) (texts names) i _ _ (as_many names i c.loop-i-test.true)
    (IfSome_then (g.S.Shelf.held c.args.shelf.now) c.loop-i.invariant.each
    (λ files h. (ss, all_come files 1 (take i (texts names)) ss h))))

pub loop-i-preserved : goal.loop-i-preserved
loop-i-preserved g c =
    let names = c.args.names.now in
    let i = c.loop-i.i in
    let s = c.in_ok-script.script in
    let ss = c.loop-i.scripts.items in
    let more : scripts_seen c.push.new.self.items ≡ scripts_seen ss ++ script_seen s ∷ [] =
    ap scripts_seen c.in_ok-push.ensures.items ∙ map-append script_seen ss (s ∷ []) in
    let comes = rw c.loop-i.invariant.held at c.in_ok-script.ensures.ok in record {
      each =
          each_more (g.S.Shelf.held c.args.shelf.now) (texts names) i (scripts_seen ss) _ (script_seen s) _
          (as_many names i c.loop-i-test.true) (one_more names i c.loop-i-test.true) more
          c.loop-i.invariant.each comes;
      count = omega (arith, ap length c.in_ok-push.ensures.items, length-append ss (s ∷ []), c.loop-i.invariant.count);
      held = c.in_ok-script.ensures.held ∙ c.loop-i.invariant.held;
      later = omega (arith, c.loop-i.invariant.later, c.in_ok-script.ensures.later);
    }

pub returns-clause-ok : goal.returns-clause-ok
returns-clause-ok g c =
    let names = texts c.args.names.now in
    let ss = scripts_seen c.loop-i.scripts.items in
    let all = take_all c.loop-i.i names (omega (arith, c.loop-i-test.false, length-map c.args.names.now (λ word. word.now))) in
    IfSome_then (g.S.Shelf.held c.args.shelf.now) c.loop-i.invariant.each
    (λ files h. subst (λ ns. ScriptsCome files 1 ns (Ok ss)) all (all_come files 1 (take c.loop-i.i names) ss h))
