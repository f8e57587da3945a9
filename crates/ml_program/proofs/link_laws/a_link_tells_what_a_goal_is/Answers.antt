use Rattle.ml_program.proofs.LinksTold.{tells_control, tells_other, tells_plain, tells_built_in, tells_store, tells_name, tells_declared, tells_procedure, tells_unknown}
use Rattle.ml_program.proofs.link_laws.a_link_tells_what_a_goal_is.Goals as goal

pub returns : goal.returns
returns c = record {
  control = tells_control;
  other = tells_other;
  plain = tells_plain;
  built_in = tells_built_in;
  store = tells_store;
  name = tells_name;
  declared = tells_declared;
  procedure = tells_procedure;
  unknown = tells_unknown;
}
