use Rattle.std.proofs.Common.{◌≡◌, refl, sym, ap, ◌∙◌, arith, subst}
use Rattle.ml_reader.proofs.Parsing.LastFrames as V
use Rattle.std.specs.Prelude.{IfOk, ◌≤◌}
use Rattle.ml_reader.specs.inside.parser.Parser as P
use Rattle.ml_reader.specs.Seen.{operator_seen, lexeme_seen}
use Rattle.ml_reader.specs.inside.parser.Frames.{stack, next_seen, few}
use Rattle.ml_reader.proofs.parser.prefix_operator.Goals as goal
use Rattle.std.specs.Option.{option_map}

pub returns-in_ok-push-in-Some : goal.returns-in_ok-push-in-Some
returns-in_ok-push-in-Some c =
    let h : c.in-Some.s.priority ≤ P.limit (stack c.args.frames.items) = omega (arith, ap (λ l. P.limit (stack l)) c.as_slice.ensures.value) in
    let e = sym (ap (option_map (λ s. operator_seen c.args.name s)) (sym c.in-Some.is) ∙ c.prefix_of.ensures) in
    subst (λ n. IfOk c.begin_term.result (λ r. next_seen r ≡ few n))
    (ap (P.begin_term (lexeme_seen c.args.lexeme)) (V.stack_pushed _ _ _ _ c.in_ok-push-in-Some.ensures.items refl) ∙ V.prefix_placed c.args.name c.in-Some.s _
    (lexeme_seen c.args.lexeme) (stack c.args.frames.items) e h)
    c.begin_term.ensures
