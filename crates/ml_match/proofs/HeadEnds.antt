-- Where the first of a head's terms ends.
use Rattle.std.proofs.Common.{◌≡◌, ℕ, ◌+◌, ◌<◌, List, ◌∷◌, refl, subst, arith}
use Rattle.ml_term.specs.Tree.{Tree, variable, integer, atom, compound}
use Rattle.ml_compile.specs.declared.instr.Instr.{Instr}
use Rattle.ml_compile.specs.declared.instr.Instr.TheVariants.{GetFirst, GetCmp}
use Rattle.ml_compile.specs.Spells.{StandsAt, Matches, nothing_matched, first_matched, again_matched, integer_matched, atom_matched, compound_matched}
use Rattle.ml_match.specs.inside.Running.{FirstTerm, EndsAt}
use Rattle.ml_compile.specs.declared.instr.Instr.TheVariants.{GetAgain, GetInt, GetAtom}
use Rattle.ml_match.specs.inside.Modes.{size_by}

-- where the term at a place ends
pub ends_by : {code : List Instr} {at : ℕ} (x : Instr) → StandsAt code at x → EndsAt code at (at + size_by x)
ends_by x y q met after ts nothing_matched l = absurd (omega arith)
ends_by {code} {at} x y q met after ts (first_matched {ts = rest} s m) l =
    let e : GetFirst met ≡ x = cc (s, y) in
    subst (λ (z : Instr). FirstTerm code at (at + size_by z) q met (variable met ∷ rest) after) e
    (record { between = met + 1; term = variable met; rest = rest; is = refl; front = first_matched s nothing_matched; behind = m })
ends_by {code} {at} x y q met after ts (again_matched {n} {ts = rest} s w m) l =
    let e : GetAgain n ≡ x = cc (s, y) in
    subst (λ (z : Instr). FirstTerm code at (at + size_by z) q met (variable n ∷ rest) after) e
    (record { between = met; term = variable n; rest = rest; is = refl; front = again_matched s w nothing_matched; behind = m })
ends_by {code} {at} x y q met after ts (integer_matched {z = i} {ts = rest} s m) l =
    let e : GetInt i ≡ x = cc (s, y) in
    subst (λ (z : Instr). FirstTerm code at (at + size_by z) q met (integer i ∷ rest) after) e
    (record { between = met; term = integer i; rest = rest; is = refl; front = integer_matched s nothing_matched; behind = m })
ends_by {code} {at} x y q met after ts (atom_matched {f} {ts = rest} s m) l =
    let e : GetAtom f ≡ x = cc (s, y) in
    subst (λ (z : Instr). FirstTerm code at (at + size_by z) q met (atom f ∷ rest) after) e
    (record { between = met; term = atom f; rest = rest; is = refl; front = atom_matched s nothing_matched; behind = m })
ends_by {code} {at} x y q met after ts (compound_matched {between} {n} {size} {f} {us} {ts = rest} s w inner m) l =
    let e : GetCmp f n size ≡ x = cc (s, y) in
    subst (λ (z : Instr). FirstTerm code at (at + size_by z) q met (compound f us ∷ rest) after) e
    (record { between = between; term = compound f us; rest = rest; is = refl; front = compound_matched s w inner nothing_matched; behind = m })

-- a variable that is met first
pub met_first : {code : List Instr} {p q met after : ℕ} {ts : List Tree} (n : ℕ) → StandsAt code p (GetFirst n) → p < q → Matches code p q met ts after
    → (met ≡ n) × ((rest : List Tree) × ((ts ≡ variable met ∷ rest) × Matches code (p + 1) q (met + 1) rest after))
met_first n y l nothing_matched = absurd (omega arith)
met_first n y l (first_matched {ts = rest} s m) = (cc (y, s), (rest, (refl, m)))
met_first n y l (again_matched s x m) = absurd (cc (y, s))
met_first n y l (integer_matched s m) = absurd (cc (y, s))
met_first n y l (atom_matched s m) = absurd (cc (y, s))
met_first n y l (compound_matched s x inner m) = absurd (cc (y, s))
