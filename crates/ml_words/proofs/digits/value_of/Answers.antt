use Rattle.std.proofs.Common.{◌≡◌, ◌∙◌, ◌<◌, ◌≤◌, ◌^◌, ◌&&◌, nat_le, Bool, true, false, true≢false, refl, sym, ap, arith, rules, length, Ok, Some, ℕ, List}
use Rattle.std.proofs.lemmas.Bool.{leb-true}
use Rattle.std.specs.Str.{all_ascii_digits}
use Rattle.std.specs.Str.Parse.{digits_value}
use Rattle.std.proofs.lemmas.Str.Parse.{parse_gives, numerals_by_value, tells_all_ascii_digits, digits_value_short}
use Rattle.ml_words.proofs.digits.value_of.Goals as goal

both : (a b : Bool) → (a && b) ≡ true → (a ≡ true) × (b ≡ true)
both true b e = (refl, e)
both false b e = absurd (true≢false (sym e))

pub returns : goal.returns
returns c =
    let text : List ℕ = c.args.digits.now in
    let own = numerals_by_value (λ ds. all_ascii_digits ds ≡ true) tells_all_ascii_digits in
    let h : (nat_le 1 (length text) && (nat_le (length text) 5 && all_ascii_digits text)) ≡ true = c.requires in
    let some : 1 ≤ length text = leb-true 1 (length text) (both _ _ h).0 in
    let few : length text ≤ 5 = leb-true (length text) 5 (both _ _ (both _ _ h).1).0 in
    let digits : all_ascii_digits text ≡ true = (both _ _ (both _ _ h).1).1 in
    let short : digits_value 10 text < 10 ^ 5 = digits_value_short own text 5 digits few in
    let parsed : c.parse.result ≡ Ok (digits_value 10 text) =
    parse_gives own 32 text c.parse.result c.parse.ensures.value.0 digits (omega (arith, some)) (omega (arith, short)) in
    search rules
