use Rattle.std.proofs.Common.{◌++◌, ◌∷◌, [], map, ap, sym, ◌∙◌, subst}
use Rattle.std.proofs.lemmas.List.{map-append}
use Rattle.ml_program.specs.Links.{link_beside}
use Rattle.ml_program.specs.declared.procedure.LinkedProcedure.{LinkedProcedure}
use Rattle.ml_program.specs.inside.Filing.{procedure_seen}
use Rattle.ml_program.specs.inside.Linking.{AreLinked}
use Rattle.ml_program.proofs.ProceduresRead.{linked_more, codes_in}
use Rattle.ml_program.proofs.tables.Tables.link_all.Goals as goal

pub loop-procedure-preserved : goal.loop-procedure-preserved
loop-procedure-preserved c =
    let x : LinkedProcedure = record { procedure = c.in-Some.procedure; links = c.in_ok-links.links } in
    record {
      same =
          ap (map codes_in) c.in_ok-push.ensures.items
          ∙ map-append codes_in c.loop-procedure.linked.items (x ∷ [])
          ∙ ap (λ ds. ds ++ codes_in x ∷ []) c.loop-procedure.invariant.same
          ∙ sym (map-append procedure_seen c.loop-procedure.yielded (c.in-Some.procedure ∷ []));
      linked = λ program ps t.
          subst (AreLinked program ps) (sym c.in_ok-push.ensures.items)
          (linked_more program ps c.loop-procedure.linked.items x (c.loop-procedure.invariant.linked program ps t)
          (record { links = c.in_ok-links.ensures program ps t ∙ ap (map (map (link_beside program ps))) c.as_slice.ensures.value }));
    }
