use Rattle.std.proofs.Common.{◌≡◌, ◌+◌, refl, sym, ◌∙◌, subst, List, Some}
use Rattle.ml_compile.specs.Spells.{StandsAt}
use Rattle.ml_compile.specs.declared.instr.Instr.{Instr}
use Rattle.ml_compile.specs.declared.instr.Instr.TheVariants.{Call}
use Rattle.ml_program.specs.LoadedProgram.{program_of, procedures_of}
use Rattle.ml_stack.specs.Memories.{code_of}
use Rattle.ml_machine.specs.declared.machine.Machine.{Machine}
use Rattle.ml_machine.specs.declared.position.Position.TheVariants.{Runs}
use Rattle.ml_machine.specs.Instructions.{EndsIn, IsNoControl}
use Rattle.ml_machine.specs.Positions.{IsAt, StandsForSome}
use Rattle.ml_machine.proofs.CallsBuilt.{has_built, some_code, some_call, call_found}
use Rattle.ml_machine.proofs.machine.Machine.build_goal.Goals as goal

pub code_of-instrs-requires : goal.code_of-instrs-requires
code_of-instrs-requires c =
    let ps = procedures_of c.args.program.now in
    let e = sym c.self.view_is in
    let goal = subst (λ (s : Machine). (instrs : List Instr) → code_of ps s.memory c.args.at.code ≡ Some instrs →
    IsNoControl instrs c.args.at.place) e c.requires.goal in
    some_code (program_of c.args.program.now) ps _ c.args.at goal _ (sym c.as_slice.ensures.value) (subst (λ s. StandsForSome ps s
    (Runs c.args.at)) e c.requires.stands)

pub build-requires : goal.build-requires
build-requires c =
    let ps = procedures_of c.args.program.now in
    let e = sym c.self.view_is in
    let goal = subst (λ (s : Machine). (instrs : List Instr) → code_of ps s.memory c.args.at.code ≡ Some instrs →
    IsNoControl instrs c.args.at.place) e c.requires.goal in
    some_call (program_of c.args.program.now) ps _ c.args.at goal _ _ _ (sym c.as_slice.ensures.value) c.as_slice-2.ensures.value c.code_of-instrs.ensures
    (subst (λ s. StandsForSome ps s (Runs c.args.at)) e c.requires.stands)

pub site_at-requires : goal.site_at-requires
site_at-requires c =
    let ps = procedures_of c.args.program.now in
    let e = sym c.self.view_is in
    let goal = subst (λ (s : Machine). (instrs : List Instr) → code_of ps s.memory c.args.at.code ≡ Some instrs →
    IsNoControl instrs c.args.at.place) e c.requires.goal in
    call_found (program_of c.args.program.now) ps _ c.args.at goal _ _ _ _ _ refl
    (sym c.as_slice.ensures.value) c.as_slice-2.ensures.value c.code_of-instrs.ensures
    c.in_ok-place.ensures.place (subst (λ s. StandsForSome ps s (Runs c.args.at)) e c.requires.stands)

pub returns : goal.returns
returns c written v i =
    let ps = procedures_of c.args.program.now in
    let e = sym c.self.view_is in
    let goal = subst (λ (s : Machine). (instrs : List Instr) → code_of ps s.memory c.args.at.code ≡ Some instrs →
    IsNoControl instrs c.args.at.place) e c.requires.goal in
    has_built (program_of c.args.program.now) ps _ c.args.at goal _ c.site_at.result (record { terms = refl; levels = refl; answers = refl; left = refl }) refl
    _ c.code_of-instrs.result.now c.as_slice-2.result.now _
    (record {
      nothing_before = c.truncate.ensures.items;
      slots_are = c.as_slice-2.ensures.value;
      memory = refl;
      carried = c.in_ok-place.ensures.carried;
      counted = c.in_ok-place.ensures.counted;
      called_is = sym c.as_slice.ensures.value;
      code = c.code_of-instrs.ensures;
      place = λ ts q b k h. c.site_at.ensures.place ∙ c.in_ok-place.ensures.place ts q b k h;
      built = c.in_ok-place.ensures.built;
    })
    (subst (λ n. EndsIn c.code_of-instrs.result.now (n + 1) c.site_at.result.ends) (sym c.site_at.ensures.place) c.site_at.ensures.ends)
    (λ M g code k. c.site_at.ensures.link M g code (subst (λ n. StandsAt c.code_of-instrs.result.now n (Call g)) c.site_at.ensures.place k)) written v (subst
    (λ s. IsAt ps s written (Runs c.args.at) v) e i)
