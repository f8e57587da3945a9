use Rattle.std.proofs.Common.{◌≡◌, ◌++◌, ◌∷◌, [], Some, length, map, take, refl, ap, ◌∙◌}
use Rattle.std.specs.Prelude.{slice_get}
use Rattle.std.proofs.lemmas.List.{take_all}
use Rattle.std.proofs.lemmas.Option.{slice_get_read}
use Rattle.ml_program.specs.Links.{link_beside}
use Rattle.ml_program.proofs.ProceduresRead.{one_more_mapped}
use Rattle.ml_program.proofs.tables.Tables.links_beside.Goals as goal

pub loop-instr-preserved : goal.loop-instr-preserved
loop-instr-preserved c =
    let all = c.args.code.now in
    let i = c.loop-instr.instr-index in
    let x = c.instr-item.result in
    let at : slice_get all i ≡ Some x = slice_get_read all (length all) i x refl c.loop-instr-test.true c.instr-item.is in
    λ program ps t.
    c.in_ok-push.ensures.items
    ∙ ap (λ ls. ls ++ c.link_beside.result ∷ []) (c.loop-instr.invariant program ps t)
    ∙ ap (λ l. map (link_beside program ps) (take i all) ++ l ∷ []) (c.link_beside.ensures program ps t)
    ∙ one_more_mapped (link_beside program ps) all i x at

pub returns : goal.returns
returns c =
    λ program ps t.
    c.from_vec.ensures ∙ c.loop-instr.invariant program ps t
    ∙ ap (map (link_beside program ps)) (take_all c.loop-instr.instr-index c.args.code.now c.loop-instr-test.false)
