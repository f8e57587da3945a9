-- The second instruction clashes with the first argument.
use Rattle.std.proofs.Common.{◌≡◌, ℕ, ◌<◌, List, length, get_or, ltb, true, sym, arith}
use Rattle.std.proofs.lemmas.Bool.Decides.{nat_tests}
use Rattle.ml_compile.specs.declared.instr.Instr.{Instr}
use Rattle.ml_compile.specs.Spells.{StandsAt}
use Rattle.ml_match.proofs.CellLists.{reads}
use Rattle.ml_match.proofs.HeadClashes.{no_unifier}
use Rattle.ml_match.proofs.first.may_match.Goals as goal

within : (n : ℕ) → true ≡ ltb 1 n → 1 < n
within n e = grind (arith, nat_tests, e)

second : (code : List Instr) (d : Instr) → true ≡ ltb 1 (length code) → d ≡ get_or code 1 d → StandsAt code 1 d
second code d l e = reads code 1 d d (within (length code) l) (sym e)

pub returns-in-Clash : goal.returns-in-Clash
returns-in-Clash c e k next name ts s n =
    no_unifier c.args.code.now k c.in-Some.instr.now _ next name ts s
    (second c.args.code.now c.in-Some.instr.now c.in-Some.ensures.lookup.0 c.in-Some.ensures.lookup.1) c.in-Clash.ensures n
