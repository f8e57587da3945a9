use Rattle.std.proofs.Common.{◌≡◌, [], map, sym, ap, subst, ◌∙◌}
use Rattle.std.proofs.lemmas.List.{nil_from_length}
use Rattle.std.proofs.lemmas.Result.{err_from_is_err_and}
use Rattle.ml_search.specs.ClauseSeen.{clauses_seen}
use Rattle.ml_search.specs.WellFormed.{are_undeclared}
use Rattle.ml_search.specs.ItemsSeen.{items_seen}
use Rattle.ml_search.specs.Loading.{are_items}
use Rattle.ml_reader.specs.Seen.{read_seen}
use Rattle.ml_reader.proofs.RuleReading.DeclarationsInOrder.{handed_on}
use Rattle.ml_reader.proofs.RuleReading.PartFacts.{clauses_kept, items_kept}
use Rattle.ml_reader.proofs.RuleReading.SortedClauses.{SoFar, nothing_yet, one_clause_more, clause_goes_wrong, all_sorted}
use Rattle.ml_reader.proofs.rules.rules_of.sort_clauses.Goals as goal

pub loop-read-init : goal.loop-read-init
loop-read-init c =
    let cs = map read_seen c.args.reads.items in
    let rest : map read_seen c.into_iter-read-iterator.result.rest.items ≡ cs = ap (map read_seen) c.into_iter-read-iterator.ensures.into_iter_gives.0 in
    let clauses : clauses_seen c.new-clauses.result.items ≡ [] = ap clauses_seen c.new-clauses.ensures.items in
    let items : items_seen c.new-items.result.items ≡ [] = ap items_seen c.new-items.ensures.items in
    (tt, tt, rw (rest, clauses, items) (nothing_yet cs c.args.decls c.requires.well_read))

pub loop-read-preserved : goal.loop-read-preserved
loop-read-preserved c =
    let cs = map read_seen c.args.reads.items in
    let clauses = clauses_seen c.loop-read.clauses.items in
    let items = items_seen c.loop-read.items.items in
    let before = subst (λ rs. SoFar cs c.args.decls (map read_seen rs) clauses items) c.in-Some.ensures.steps.0 c.loop-read.invariant.2 in
    (tt, tt, one_clause_more cs c.args.decls (read_seen c.in-Some.read) _ clauses _ items _ before c.in_ok-sort_in.ensures.ok)

pub returns-in_err-sort_in-clause-fault : goal.returns-in_err-sort_in-clause-fault
returns-in_err-sort_in-clause-fault c = λ f e.
    let cs = map read_seen c.args.reads.items in
    let clauses = clauses_seen c.loop-read.clauses.items in
    let items = items_seen c.loop-read.items.items in
    let before = subst (λ rs. SoFar cs c.args.decls (map read_seen rs) clauses items) c.in-Some.ensures.steps.0 c.loop-read.invariant.2 in
    let p = err_from_is_err_and c.from_residual.result c.from_residual.ensures.1 in
    let wrong = c.in_err-sort_in.ensures.fault f (handed_on c.from_residual.result p.0 _ f p.1 p.2 e) in
    clause_goes_wrong cs c.args.decls (read_seen c.in-Some.read) _ clauses items f before c.requires.declared wrong

pub rules_from-requires-clause-clauses : goal.rules_from-requires-clause-clauses
rules_from-requires-clause-clauses c =
    let cs = map read_seen c.args.reads.items in
    let ds = c.args.decls in
    let clauses = clauses_seen c.loop-read.clauses.items in
    let items = items_seen c.loop-read.items.items in
    let empty = nil_from_length c.loop-read.read-iterator.rest.items (sym c.loop-read.read-iterator.rest.ok.0 ∙ c.in-None.ensures.steps.0) in
    let before = subst (λ rs. SoFar cs ds (map read_seen rs) clauses items) empty c.loop-read.invariant.2 in
    let rules = all_sorted cs ds clauses items before c.requires.declared in
    ap (are_undeclared ds) rules.in_program ∙ clauses_kept ds cs c.requires.well_read

pub rules_from-requires-clause-items : goal.rules_from-requires-clause-items
rules_from-requires-clause-items c =
    let cs = map read_seen c.args.reads.items in
    let ds = c.args.decls in
    let clauses = clauses_seen c.loop-read.clauses.items in
    let items = items_seen c.loop-read.items.items in
    let empty = nil_from_length c.loop-read.read-iterator.rest.items (sym c.loop-read.read-iterator.rest.ok.0 ∙ c.in-None.ensures.steps.0) in
    let before = subst (λ rs. SoFar cs ds (map read_seen rs) clauses items) empty c.loop-read.invariant.2 in
    let rules = all_sorted cs ds clauses items before c.requires.declared in
    ap (are_items ds) rules.in_lists ∙ items_kept ds cs c.requires.well_read
