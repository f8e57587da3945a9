-- Parts of a term's text, where the line met some variables before. No public clause cites this
-- module.
use Rattle.std.specs.Prelude.{◌≡◌, ℕ, List, ◌++◌}
use Rattle.ml_term.specs.Tree.{Tree, Trees, variables, variables_of, firsts}
use Rattle.ml_term.specs.Text.{texts, text_of, rest_text, number_in, join_by_commas}

-- the same variables were met, in the same order
abbrev pub MeetTheSame : List ℕ → List ℕ → Type 0
MeetTheSame met others = firsts met ≡ firsts others

-- the texts of arguments, with commas between
abbrev pub arguments_text : Trees → List ℕ → List ℕ
arguments_text ts met = join_by_commas (texts (number_in (firsts (met ++ variables_of ts))) ts)

-- what follows an element of a list
abbrev pub tail_text : Tree → List ℕ → List ℕ
tail_text t met = rest_text (number_in (firsts (met ++ variables t))) t

-- an element of a list, and what follows it
abbrev pub elements_text : Tree → Tree → List ℕ → List ℕ
elements_text h t met = text_of h met ++ tail_text t (met ++ variables h)
