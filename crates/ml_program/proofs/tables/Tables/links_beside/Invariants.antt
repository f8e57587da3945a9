use Rattle.std.proofs.Common.{◌≡◌, List, map, take}
use Rattle.ml_search.specs.Program.{Program}
use Rattle.ml_stack.specs.Memories.{CompiledProcedure}
use Rattle.ml_program.specs.Links.{link_beside}
use Rattle.ml_program.specs.inside.Linking.{AreTablesOf}
use Rattle.ml_program.proofs.tables.Tables.links_beside.Given as goal

-- the links of the instructions so far
abbrev pub invariant-loop-instr : goal.invariant-loop-instr
invariant-loop-instr l =
    (program : Program) (ps : List CompiledProcedure) → AreTablesOf program ps l.self.decls l.self.places.keys →
    l.links.items ≡ map (link_beside program ps) (take l.instr-index l.code)
