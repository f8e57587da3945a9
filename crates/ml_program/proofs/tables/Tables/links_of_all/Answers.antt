use Rattle.std.proofs.Common.{◌≡◌, ◌++◌, ◌∷◌, [], Some, length, map, take, refl, ap, ◌∙◌}
use Rattle.std.specs.Prelude.{slice_get}
use Rattle.std.proofs.lemmas.List.{take_all}
use Rattle.std.proofs.lemmas.Option.{slice_get_read}
use Rattle.ml_program.specs.Links.{link_beside}
use Rattle.ml_program.proofs.ProceduresRead.{one_more_mapped}
use Rattle.ml_program.proofs.tables.Tables.links_of_all.Goals as goal

pub loop-code-preserved : goal.loop-code-preserved
loop-code-preserved c =
    let all = c.args.codes.now in
    let i = c.loop-code.code-index in
    let x = c.code-item.result in
    let at : slice_get all i ≡ Some x = slice_get_read all (length all) i x refl c.loop-code-test.true c.code-item.is in
    λ program ps t.
    c.in_ok-push.ensures.items
    ∙ ap (λ ls. ls ++ c.in_ok-beside.beside ∷ []) (c.loop-code.invariant program ps t)
    ∙ ap (λ l. map (map (link_beside program ps)) (take i all) ++ l ∷ [])
    (c.in_ok-beside.ensures program ps t ∙ ap (map (link_beside program ps)) c.as_slice.ensures)
    ∙ one_more_mapped (map (link_beside program ps)) all i x at

pub returns : goal.returns
returns c =
    λ program ps t.
    c.loop-code.invariant program ps t
    ∙ ap (map (map (link_beside program ps))) (take_all c.loop-code.code-index c.args.codes.now c.loop-code-test.false)
