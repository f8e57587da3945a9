use Rattle.std.proofs.Common.{◌≡◌, List, map}
use Rattle.ml_search.specs.Program.{Program}
use Rattle.ml_stack.specs.Memories.{CompiledProcedure}
use Rattle.ml_program.specs.inside.Filing.{procedure_seen, procedures_seen}
use Rattle.ml_program.specs.inside.Linking.{AreTablesOf, AreLinked}
use Rattle.ml_program.proofs.tables.Tables.link_all.Given as goal

-- the procedures so far, with their links
abbrev pub invariant-loop-procedure : goal.invariant-loop-procedure
invariant-loop-procedure l = record {
  same : map (λ k. procedure_seen k.procedure) l.linked.items ≡ procedures_seen l.yielded;
  linked : (program : Program) (ps : List CompiledProcedure) → AreTablesOf program ps l.self.decls l.self.places.keys →
      AreLinked program ps l.linked.items;
}
