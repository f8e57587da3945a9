-- A term that is too large stays so with its cause.
use Rattle.std.specs.Prelude.{◌≡◌, ℕ, ◌<◌, nat_lt, true, List, codes, if◌then◌else◌}
use Rattle.std.proofs.Common.{ap, arith}
use Rattle.ml_term.specs.Tree.{Tree, atom, compound_2, nodes}
use Rattle.ml_search.specs.Errors.{kept_small, resource_error}

above : (n : ℕ) → 4096 < n → nat_lt 4096 n ≡ true
above n l = grind arith

pub large_with_cause : (f a : List ℕ) (t : Tree) → 4096 < nodes t → kept_small (compound_2 f (atom a) t) ≡ resource_error (codes "term")
large_with_cause f a t l =
    let more : 4096 < nodes (compound_2 f (atom a) t) = omega (arith, l) in
    ap (λ b. if b then resource_error (codes "term") else compound_2 f (atom a) t) (above (nodes (compound_2 f (atom a) t)) more)
