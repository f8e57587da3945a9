-- The commands as `clap` knows them, and when it takes words. What it makes of a command's words is
-- said by its own definitions: `fault_of` gives the kinds of errors that a parse of them may have.
use Rattle.std.specs.Prelude.{◌==◌, ℕ, Bool, true, List, Some, length, codes}
use Rattle.clap.specs.Words.{App, Rule, fault_of, new_app, new_rule, with_rule}
use Rattle.clap.specs.declared.builder.range.ValueRange.{ValueRange}
use Rattle.clap.specs.declared.builder.action.ArgAction.TheVariants.{Set, Append}
use Rattle.ml_words.specs.Limits.{max_scripts}

-- an option `--NAME`, at most once, with one value
abbrev pub option_rule : List ℕ → Rule
option_rule name = record (new_rule name) { long = Some name; action = Some Set }

-- one positional name that must be there
abbrev pub name_rule : List ℕ → Rule
name_rule name = record (new_rule name) { required = true; action = Some Set }

-- from none up to so many positional names
abbrev pub names_rule : List ℕ → ℕ → Rule
names_rule name most = record (new_rule name) {
  range = Some (record { start_inclusive = 0; end_inclusive = most });
  action = Some Append;
}

-- `serial` and `run`: two options, the rules, and the scripts
abbrev pub sessions_app : App
sessions_app = with_rule (with_rule (with_rule (with_rule (new_app (codes "sessions"))
    (option_rule (codes "image"))) (option_rule (codes "save"))) (name_rule (codes "rules")))
    (names_rule (codes "scripts") max_scripts)

-- `check`: the rules and the image
abbrev pub check_app : App
check_app = with_rule (with_rule (new_app (codes "check")) (name_rule (codes "rules")))
    (name_rule (codes "image"))

-- `make`: the number
abbrev pub make_app : App
make_app = with_rule (new_app (codes "make")) (name_rule (codes "number"))

-- the command takes the words, the command word first
abbrev pub takes : App → List (List ℕ) → Bool
takes app words = length (fault_of app words) == 0
