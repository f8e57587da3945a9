-- What was read whole stands there, and where a term stands there is no defect and no other term.
use Rattle.std.specs.Prelude.{◌≡◌, ℕ, zero, suc, ◌+◌, ◌-◌, List, length, drop, Some, None}
use Rattle.std.proofs.Common.{refl, sym, ap, ◌∙◌, arith}
use Rattle.ml_term.specs.declared.reading.Progress.{Progress}
use Rattle.ml_term.specs.declared.stop.BytesStop.{BytesStop}
use Rattle.ml_term.specs.declared.stop.BytesStop.TheVariants.{Bad, OutOfMemory}
use Rattle.ml_term.specs.Tree.{Tree, nodes, variables}
use Rattle.ml_term.specs.CanonicalBytes.{bytes_of}
use Rattle.ml_term.specs.Limits.{max_term_nodes}
use Rattle.ml_term.specs.StandsAt.{StandsAt}
use Rattle.ml_term.specs.FirstDefect.{defect_from, first_defect}
use Rattle.ml_term.specs.inside.Reading.{IsRead, HasDefect, RefusesAt, met_after_variables, are_in_order}
use Rattle.ml_term.proofs.CanonicalOrder.{settled_bytes}
use Rattle.ml_term.proofs.KeysTellTuples.{bytes_tell, parted_settled}
use Rattle.ml_term.proofs.StandingNodes.{term_stands}
use Rattle.ml_term.proofs.VariablesInOrder.{in_order_is_numbered}

pub stands : (bytes : List ℕ) (at : ℕ) (t : Tree) (before after : Progress) → before.at ≡ at → before.met ≡ 0 → before.left ≡ max_term_nodes →
    IsRead bytes before t after → StandsAt bytes at t after.at
stands bytes at t before after place none left read = record {
  spelled = ap (λ n. drop n bytes) (sym place) ∙ read.spelled;
  ended = omega (arith, read.ended, place);
  valid = read.valid;
  numbered = sym (in_order_is_numbered (variables t)) ∙ ap (λ m. are_in_order m (variables t)) (sym none) ∙ read.in_order;
  small = omega (arith, read.left, left);
}

none_wanted : (left met at : ℕ) (bytes : List ℕ) → defect_from left 0 met at bytes ≡ None
unfolding defect_from
none_wanted zero met at bytes = refl
none_wanted (suc left) met at bytes = refl

pub no_defect : (bytes : List ℕ) (at : ℕ) (t : Tree) (after : ℕ) → StandsAt bytes at t after → first_defect bytes at ≡ None
unfolding first_defect
no_defect bytes at t after s =
    let left = max_term_nodes - nodes t in
    let all : max_term_nodes ≡ nodes t + left = omega (arith, s.small) in
    let rest = drop after bytes in
    ap (λ n. defect_from n 1 0 at (drop at bytes)) all
    ∙ ap (defect_from (nodes t + left) 1 0 at) s.spelled
    ∙ term_stands left 0 0 at t rest s.valid (in_order_is_numbered (variables t) ∙ s.numbered)
    ∙ none_wanted left (met_after_variables 0 (variables t)) (at + length (bytes_of t)) rest

pub one_term : (bytes : List ℕ) (at : ℕ) (t u : Tree) (after other : ℕ) → StandsAt bytes at t after → StandsAt bytes at u other → (t ≡ u) × (after ≡ other)
one_term bytes at t u after other s r =
    let same = parted_settled (bytes_of t) (bytes_of u) (drop after bytes) (drop other bytes) (settled_bytes t u) (sym s.spelled ∙ r.spelled) in
    (bytes_tell t u s.valid r.valid same.0, omega (arith, s.ended, r.ended, ap length same.0))

-- the first defect from the beginning on
pub begins_there : (bytes : List ℕ) (at place : ℕ) (before : Progress) → before.at ≡ at → before.met ≡ 0 → before.left ≡ max_term_nodes →
    HasDefect bytes 1 before place → first_defect bytes at ≡ Some place
unfolding first_defect
begins_there bytes at place before here none left defect =
    ap (λ n. defect_from n 1 0 at (drop at bytes)) (sym left)
    ∙ ap (λ n. defect_from before.left 1 n at (drop at bytes)) (sym none)
    ∙ ap (λ n. defect_from before.left 1 before.met n (drop n bytes)) (sym here)
    ∙ defect 0

-- a refusal where a term stands is for want of memory
pub only_memory : (bytes : List ℕ) (at : ℕ) (t : Tree) (after : ℕ) (stop : BytesStop) → StandsAt bytes at t after →
    RefusesAt stop (λ place. first_defect bytes at ≡ Some place) → stop ≡ OutOfMemory
only_memory bytes at t after (Bad bad) s defect = absurd (cc (no_defect bytes at t after s, defect))
only_memory bytes at t after OutOfMemory s defect = refl
