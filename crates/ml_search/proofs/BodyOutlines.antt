-- A body keeps its control constructs whatever its terms become.
use Rattle.std.specs.Prelude.{◌≡◌, List, [], ◌∷◌, map}
use Rattle.std.proofs.Common.{refl, ap}
use Rattle.ml_term.specs.Tree.{Tree, atom}
use Rattle.ml_search.specs.Bodies.{Body, true_goal, fail_goal, cut, conjunction, disjunction, if_then, if_then_else, call, once, not_provable, findall, catch}
use Rattle.ml_search.specs.Bodies.{throw, predication, in_body}
use Rattle.ml_search.specs.LawWords.{outline}

blank_all : (f : Tree → Tree) (ts : List Tree) → map (λ t. atom []) (map f ts) ≡ map (λ t. atom []) ts
blank_all f [] = refl
blank_all f (t ∷ ts) = ap (λ us. atom [] ∷ us) (blank_all f ts)

pub keeps_outline : (f : Tree → Tree) (b : Body) → outline (in_body f b) ≡ outline b
keeps_outline f true_goal = refl
keeps_outline f fail_goal = refl
keeps_outline f cut = refl
keeps_outline f (conjunction a b) = cc (keeps_outline f a, keeps_outline f b)
keeps_outline f (disjunction a b) = cc (keeps_outline f a, keeps_outline f b)
keeps_outline f (if_then a b) = cc (keeps_outline f a, keeps_outline f b)
keeps_outline f (if_then_else a b c) = cc (keeps_outline f a, keeps_outline f b, keeps_outline f c)
keeps_outline f (call t) = refl
keeps_outline f (once t) = refl
keeps_outline f (not_provable t) = refl
keeps_outline f (findall t u v) = refl
keeps_outline f (catch t u v) = refl
keeps_outline f (throw t) = refl
keeps_outline f (predication g ts) = ap (predication g) (blank_all f ts)

-- a body that is changed twice
pub twice : (f g : Tree → Tree) (b : Body) → in_body f (in_body g b) ≡ in_body (λ t. f (g t)) b
twice f g true_goal = refl
twice f g fail_goal = refl
twice f g cut = refl
twice f g (conjunction a b) = cc (twice f g a, twice f g b)
twice f g (disjunction a b) = cc (twice f g a, twice f g b)
twice f g (if_then a b) = cc (twice f g a, twice f g b)
twice f g (if_then_else a b c) = cc (twice f g a, twice f g b, twice f g c)
twice f g (call t) = refl
twice f g (once t) = refl
twice f g (not_provable t) = refl
twice f g (findall t u v) = refl
twice f g (catch t u v) = refl
twice f g (throw t) = refl
twice f g (predication h ts) = ap (predication h) (map_twice ts)
  where
    map_twice : (ts : List Tree) → map f (map g ts) ≡ map (λ t. f (g t)) ts
    map_twice [] = refl
    map_twice (t ∷ ts) = ap (λ us. f (g t) ∷ us) (map_twice ts)
