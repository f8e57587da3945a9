use Rattle.std.proofs.Common.{ap, sym, ◌∙◌, ◌≡◌, ◌||◌, true, false}
use Rattle.ml_key.specs.inside.PatternCodes.{asked_bits, begins_code, place_may_hold}
use Rattle.ml_key.proofs.PrefixPlaces.{asked_place, free_place}
use Rattle.ml_key.proofs.pattern.place_may_hold.Goals as goal

pub returns-in-None : goal.returns-in-None
returns-in-None c =
    let bs = c.args.prefix.now.bits in
    free_place c.args.width c.args.place bs ∙ sym (ap (λ a. place_may_hold c.args.width c.args.place (asked_bits a) bs) c.in-None.is)

pub returns-then-begins_code : goal.returns-then-begins_code
returns-then-begins_code c =
    let bs = c.args.prefix.now.bits in
    let begun : begins_code c.args.width c.args.place c.in-Some.code bs ≡ true = sym c.begins_code.ensures ∙ c.if-begins_code.true in
    c.if-begins_code.true
    ∙ sym (ap (λ b. b || begins_code c.args.width c.args.place 0 bs) begun)
    ∙ asked_place c.args.width c.args.place c.in-Some.code bs
    ∙ sym (ap (λ a. place_may_hold c.args.width c.args.place (asked_bits a) bs) c.in-Some.is)

pub returns-else-begins_code : goal.returns-else-begins_code
returns-else-begins_code c =
    let bs = c.args.prefix.now.bits in
    let other : begins_code c.args.width c.args.place c.in-Some.code bs ≡ false = sym c.begins_code.ensures ∙ c.if-begins_code.false in
    c.begins_code-else-begins_code.ensures
    ∙ sym (ap (λ b. b || begins_code c.args.width c.args.place 0 bs) other)
    ∙ asked_place c.args.width c.args.place c.in-Some.code bs
    ∙ sym (ap (λ a. place_may_hold c.args.width c.args.place (asked_bits a) bs) c.in-Some.is)
