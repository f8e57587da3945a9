-- What the code's types are seen as.
use Rattle.std.specs.Prelude.{ℕ, List, map, option_map}
use Rattle.std.specs.Borrow.{Bor}
use Rattle.ml_words.specs.Walks.{Name, Look, Given, Next, Walk}
use Rattle.ml_words.specs.Walks as walks
use Rattle.ml_words.specs.Forms.{Asked, Form, sessions, check, make, sessions_form, check_form}
use Rattle.ml_words.specs.Forms.{make_form}
use Rattle.ml_words.specs.declared.named.Named.{Named}
use Rattle.ml_words.specs.declared.words.Words.{Words}
use Rattle.ml_words.specs.declared.words.Words.TheVariants as words
use Rattle.ml_words.specs.declared.form.Form.{Form as CodeForm}
use Rattle.ml_words.specs.declared.form.Form.TheVariants as forms
use Rattle.ml_words.specs.declared.walk.Look.{Look as CodeLook}
use Rattle.ml_words.specs.declared.walk.Look.TheVariants as looks
use Rattle.ml_words.specs.declared.walk.Given.{Given as CodeGiven}
use Rattle.ml_words.specs.declared.walk.Given.TheVariants as given
use Rattle.ml_words.specs.declared.walk.Next.{Next as CodeNext}
use Rattle.ml_words.specs.declared.walk.Next.TheVariants as next
use Rattle.ml_words.specs.declared.walk.Walk.{Walk as CodeWalk}

-- the words as texts
abbrev pub texts : List (Bor (List ℕ)) → List (List ℕ)
texts words = map (λ word. word.now) words

-- a name
abbrev pub named_seen : Named → Name
named_seen n = record { word = n.word; from = n.from }

-- what words ask for
abbrev pub words_seen : Words → Asked
words_seen (words.Sessions threads rules image save scripts) =
    sessions threads rules (option_map named_seen image) (option_map named_seen save) scripts.items
words_seen (words.Check rules image) = check rules image
words_seen (words.Make n) = make n

-- the form of a command
abbrev pub form_seen : CodeForm → Form
form_seen (forms.Sessions threads) = sessions_form threads
form_seen forms.Check = check_form
form_seen forms.Make = make_form

-- how a word looks
abbrev pub look_seen : CodeLook → Look
look_seen looks.ImageOption = walks.image_option
look_seen looks.SaveOption = walks.save_option
look_seen looks.ImageAndName = walks.image_and_name
look_seen looks.SaveAndName = walks.save_and_name
look_seen looks.TwoDashes = walks.two_dashes
look_seen looks.Other = walks.other_look

-- the names that an option got
abbrev pub given_seen : CodeGiven → Given
given_seen given.Never = walks.never
given_seen (given.Once n) = walks.once (named_seen n)
given_seen given.Again = walks.again

-- what the next word is
abbrev pub next_seen : CodeNext → Next
next_seen next.AnyWord = walks.any_word
next_seen next.NameOfImage = walks.name_of_image
next_seen next.NameOfSave = walks.name_of_save
next_seen next.OnlyNames = walks.only_names

-- where the walk stands
abbrev pub walk_seen : CodeWalk → Walk
walk_seen w = record {
  next = next_seen w.next;
  image = given_seen w.image;
  save = given_seen w.save;
  names = w.names.items;
}
