use Rattle.ml_program.proofs.LinksTold.{clause_of_code, code_of_clause}
use Rattle.ml_program.proofs.ProgramsLoaded.{as_many_spelled}
use Rattle.ml_program.proofs.link_laws.codes_spell_their_clauses.Goals as goal

pub returns : goal.returns
returns c = record {
  many = λ codes cs h. as_many_spelled h;
  clause = λ codes cs i code h at. clause_of_code h i code at;
  code = λ codes cs i k h at. code_of_clause h i k at;
}
