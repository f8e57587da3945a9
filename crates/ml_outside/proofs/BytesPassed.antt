-- Bytes that pass from a reader or to a writer in several steps.
use Rattle.std.proofs.Common.{◌≡◌, ℕ, ◌+◌, ◌-◌, ◌^◌, ◌<◌, ◌≤◌, min, List, ◌++◌, length, take, drop, None, Some, IfSome, Ok, sym, ap, ◌∙◌, arith, append_assoc}
use Rattle.std.proofs.Common.{take-append-drop, length-take}
use Rattle.std.specs.Prelude.{Option, option_map, Vec}
use Rattle.std.proofs.lemmas.List.{take_all, take_rest}
use Rattle.std.proofs.KnownBytes.{Appends-trans}
use Rattle.std.specs.Io.KnownBytes.{Appends}
use Rattle.std.specs.declared.alloc.Global.{Global}
use Rattle.ml_outside.specs.Held.{Finds}

-- the writer took the front of these bytes, and the rest is left
pub record Passed (before now : Option (List ℕ)) (bytes rest : List ℕ) : Type 0 where
  pub front : List ℕ
  pub split : bytes ≡ front ++ rest
  pub appended : Appends before now front

-- the writer took n bytes of the rest
pub passed_more : (before now after : Option (List ℕ)) (bytes rest : List ℕ) (n : ℕ) → Passed before now bytes rest → Appends now after (take n rest)
    → Passed before after bytes (take (length rest - n) (drop n rest))
passed_more before now after bytes rest n passed took = record {
  front = passed.front ++ take n rest;
  split =
      passed.split ∙ ap (λ l. passed.front ++ l) (sym (take-append-drop n rest)) ∙ sym (append_assoc passed.front (take n rest) (drop n rest))
      ∙ ap (λ l. (passed.front ++ take n rest) ++ l) (sym (take_rest rest n));
  appended = Appends-trans before now after passed.front (take n rest) passed.appended took;
}

-- a front that is within the limit, and was asked for one more, is the whole
pub whole_front : (found : Option (List ℕ)) (limit most : ℕ) (v : Vec ℕ Global) → most ≡ min (limit + 1) (2 ^ 64 - 1)
    → IfSome (option_map (take most) found) (λ xs. v.items ≡ xs) → length v.items ≤ limit → IfSome found (λ all. Finds (Some all) limit (Ok v))
whole_front None limit most v capped read within = tt
whole_front (Some all) limit most v capped read within =
    let short : length v.items < 2 ^ 63 = omega (arith, v.ok, v.small) in
    let cut : length v.items ≡ min most (length all) = ap length read ∙ length-take most all in
    let is_whole : take most all ≡ all = take_all most all (omega arith) in
    (ap Some (sym (read ∙ is_whole)), within)
