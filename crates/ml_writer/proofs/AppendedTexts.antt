-- Texts put one behind another.
use Rattle.std.proofs.Common.{◌≡◌, ◌∙◌, ◌++◌, ap, append_assoc, ℕ, List}

pub two_parts : (start one two a b : List ℕ) → one ≡ start ++ a → two ≡ one ++ b → two ≡ start ++ (a ++ b)
two_parts start one two a b e f = f ∙ (ap (λ z. z ++ b) e ∙ append_assoc start a b)

pub three_parts : (start one two three a b d : List ℕ) → one ≡ start ++ a → two ≡ one ++ b → three ≡ two ++ d → three ≡ start ++ (a ++ (b ++ d))
three_parts start one two three a b d e f g = two_parts start one three a (b ++ d) e (two_parts one two three b d f g)
