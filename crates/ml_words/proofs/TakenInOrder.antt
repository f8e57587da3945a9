-- clap takes the words of sessions that stand in the order of the table.
use Rattle.std.specs.Prelude.{◌≡◌, ℕ, ◌≤◌, false, List, [], ◌∷◌, ◌++◌, Option, Some, None, is_some, length, codes, fold, nat_lt}
use Rattle.std.proofs.Common.{refl, sym, ap, ap₂, ◌∙◌, subst, arith, append_assoc}
use Rattle.std.proofs.lemmas.List.{append-nil}
use Rattle.std.proofs.lemmas.Bool.{le-ltb}
use Rattle.clap.specs.Kinds.{Kinds, or_else, range_kinds, values_kinds}
use Rattle.clap.specs.Walk.{Held, Row, Text, Waiting, Walk, after_step, idle, option, plain_word, positional, nothing_held, settled, walk_from, walked}
use Rattle.clap.specs.Walk.{finished}
use Rattle.clap.specs.Simple.{Shape, built, entered}
use Rattle.clap.specs.Faults.{check_fault, defaults_fault, entered_fault, fault_of, settle_fault, step_fault, walk_fault, turn_fault}
use Rattle.clap.specs.declared.builder.value_parser.Reading.TheVariants as reading
use Rattle.clap.specs.declared.builder.value_parser.ValueParser.TheVariants as vp
use Rattle.clap.specs.declared.parser.matches.ValueSource.TheVariants.{CommandLine}
use Rattle.clap.proofs.OnLiterals.{clap_on_literals}
use Rattle.ml_words.specs.Commands.{sessions_app}
use Rattle.ml_words.specs.InOrder.{option_before}
use Rattle.ml_words.proofs.PlainWords.{IsPlain, Leads, Taken, end_fault, faults_of_words, one_word, plain_word_leads, standing, then}

-- the command as it is built
abbrev top : Shape
top = (built sessions_app).top

-- what was found of an argument
abbrev pub row : Text → List Text → Row
row id values = record { id = id; values = values; count = None; source = Some CommandLine; reading = reading.AsWritten }

abbrev pub held : List Row → Text → List Text → Held
held rows id values = record { rows = rows; pending = Some (id, values); skip = 0 }

-- what is held behind the options, and the rows of the options when they are done
abbrev before_rules : Option Text → Option Text → Held
before_rules None None = nothing_held
before_rules (Some i) None = held [] (codes "image") (i ∷ [])
before_rules None (Some s) = held [] (codes "save") (s ∷ [])
before_rules (Some i) (Some s) = held (row (codes "image") (i ∷ []) ∷ []) (codes "save") (s ∷ [])

abbrev option_rows : Option Text → Option Text → List Row
option_rows None None = []
option_rows (Some i) None = row (codes "image") (i ∷ []) ∷ []
option_rows None (Some s) = row (codes "save") (s ∷ []) ∷ []
option_rows (Some i) (Some s) = row (codes "image") (i ∷ []) ∷ row (codes "save") (s ∷ []) ∷ []

abbrev pub PlainOption : Option Text → Type 0
PlainOption None = Unit {0}
PlainOption (Some name) = IsPlain name

-- an option with its name
image_first : (i : Text) (rest : List Text) → IsPlain i
    → Leads top (walk_from nothing_held) (codes "--image" ∷ i ∷ rest) (standing (before_rules (Some i) None) idle 1) rest
unfolding clap_on_literals
image_first i rest p =
    then top _ (standing (held [] (codes "image") []) (option (codes "image")) 1) _ _ (i ∷ rest) _
    (one_word top (walk_from nothing_held) (standing (held [] (codes "image") []) (option (codes "image")) 1) (codes "--image") (i ∷ rest) refl refl)
    (plain_word_leads top (held [] (codes "image") []) (option (codes "image")) 1 (standing (before_rules (Some i) None) idle 1) i rest p refl refl)

save_first : (s : Text) (rest : List Text) → IsPlain s
    → Leads top (walk_from nothing_held) (codes "--save" ∷ s ∷ rest) (standing (before_rules None (Some s)) idle 1) rest
unfolding clap_on_literals
save_first s rest p =
    then top _ (standing (held [] (codes "save") []) (option (codes "save")) 1) _ _ (s ∷ rest) _
    (one_word top (walk_from nothing_held) (standing (held [] (codes "save") []) (option (codes "save")) 1) (codes "--save") (s ∷ rest) refl refl)
    (plain_word_leads top (held [] (codes "save") []) (option (codes "save")) 1 (standing (before_rules None (Some s)) idle 1) s rest p refl refl)

save_second : (i s : Text) (rest : List Text) → IsPlain s
    → Leads top (standing (before_rules (Some i) None) idle 1) (codes "--save" ∷ s ∷ rest) (standing (before_rules (Some i) (Some s)) idle 1) rest
unfolding clap_on_literals
save_second i s rest p =
    let rows = row (codes "image") (i ∷ []) ∷ [] in
    then top _ (standing (held rows (codes "save") []) (option (codes "save")) 1) _ _ (s ∷ rest) _
    (one_word top (standing (before_rules (Some i) None) idle 1) (standing (held rows (codes "save") []) (option (codes "save")) 1)
    (codes "--save") (s ∷ rest) refl refl)
    (plain_word_leads top (held rows (codes "save") []) (option (codes "save")) 1 (standing (before_rules (Some i) (Some s)) idle 1) s rest p refl refl)

options : (image save : Option Text) (rest : List Text) → PlainOption image → PlainOption save
    → Leads top (walk_from nothing_held) (option_before (codes "--image") image (option_before (codes "--save") save rest))
    (standing (before_rules image save) idle 1) rest
options None None rest p q = record { faults = refl; walks = refl }
options (Some i) None rest p q = image_first i rest p
options None (Some s) rest p q = save_first s rest q
options (Some i) (Some s) rest p q = then top _ (standing (before_rules (Some i) None) idle 1) _ _ (codes "--save" ∷ s ∷ rest) _
    (image_first i (codes "--save" ∷ s ∷ rest) p) (save_second i s rest q)

-- behind the rules
abbrev behind_rules : Option Text → Option Text → Text → Held
behind_rules image save r = held (option_rows image save) (codes "rules") (r ∷ [])

rules_word : (image save : Option Text) (r : Text) (rest : List Text) → IsPlain r
    → Leads top (standing (before_rules image save) idle 1) (r ∷ rest) (standing (behind_rules image save r) idle 2) rest
rules_word None None r rest p = plain_word_leads top (before_rules None None) idle 1 _ r rest p refl refl
rules_word (Some i) None r rest p = plain_word_leads top (before_rules (Some i) None) idle 1 _ r rest p refl refl
rules_word None (Some s) r rest p = plain_word_leads top (before_rules None (Some s)) idle 1 _ r rest p refl refl
rules_word (Some i) (Some s) r rest p = plain_word_leads top (before_rules (Some i) (Some s)) idle 1 _ r rest p refl refl

-- what was found when the first script stands there
abbrev found_rows : Option Text → Option Text → Text → List Row
found_rows image save r = option_rows image save ++ row (codes "rules") (r ∷ []) ∷ []

abbrev at_scripts : List Row → List Text → Walk
at_scripts rows scripts = standing (held rows (codes "scripts") scripts) positional 2

first_script : (image save : Option Text) (r s : Text) (rest : List Text) → IsPlain s
    → Leads top (standing (behind_rules image save r) idle 2) (s ∷ rest) (at_scripts (found_rows image save r) (s ∷ [])) rest
first_script None None r s rest p = plain_word_leads top (behind_rules None None r) idle 2 _ s rest p refl refl
first_script (Some i) None r s rest p = plain_word_leads top (behind_rules (Some i) None r) idle 2 _ s rest p refl refl
first_script None (Some v) r s rest p = plain_word_leads top (behind_rules None (Some v) r) idle 2 _ s rest p refl refl
first_script (Some i) (Some v) r s rest p = plain_word_leads top (behind_rules (Some i) (Some v) r) idle 2 _ s rest p refl refl

pub data AllPlain : List Text → Type 0 where
  none_left : AllPlain []
  one_plain : {s : Text} {rest : List Text} → IsPlain s → AllPlain rest → AllPlain (s ∷ rest)

more_scripts : (rows : List Row) (before scripts : List Text) → AllPlain scripts
    → Leads top (at_scripts rows before) scripts (at_scripts rows (before ++ scripts)) []
more_scripts rows before [] ps = record {
  faults = ap (λ (ss : List Text). walk_fault top [] (at_scripts rows ss) []) (sym (append-nil before));
  walks = ap (λ (ss : List Text). at_scripts rows ss) (sym (append-nil before));
}
more_scripts rows before (s ∷ scripts) (one_plain p ps) =
    let again : Leads top (at_scripts rows (before ++ s ∷ [])) scripts (at_scripts rows (before ++ s ∷ scripts)) [] =
    subst (λ (ss : List Text). Leads top (at_scripts rows (before ++ s ∷ [])) scripts (at_scripts rows ss) []) (append_assoc before (s ∷ []) scripts)
    (more_scripts rows (before ++ s ∷ []) scripts ps) in
    then top _ (at_scripts rows (before ++ s ∷ [])) _ _ scripts _
    (plain_word_leads top (held rows (codes "scripts") before) positional 2 (at_scripts rows (before ++ s ∷ [])) s scripts p refl refl) again

end_at_rules : (image save : Option Text) (r : Text) → end_fault top (behind_rules image save r) ≡ []
unfolding clap_on_literals
end_at_rules None None r = refl
end_at_rules (Some i) None r = refl
end_at_rules None (Some s) r = refl
end_at_rules (Some i) (Some s) r = refl

few : (n : ℕ) → n ≤ 64 → range_kinds 0 64 n ≡ []
few n le =
    let low : nat_lt n 0 ≡ false = le-ltb n 0 (omega arith) in
    let high : nat_lt 64 n ≡ false = le-ltb 64 n (omega (arith, le)) in
    rw (low, high) refl

any_values : (vs : List Text) → values_kinds false vp.String vs ≡ []
any_values [] = refl
any_values (v ∷ vs) = any_values vs

settle_scripts : (rows : List Row) (v : Text) (vs : List Text) → length (v ∷ vs) ≤ 64
    → settle_fault top.rules top.args_override_self (held rows (codes "scripts") (v ∷ vs)) ≡ []
settle_scripts rows v vs le = ap₂ or_else (few (length (v ∷ vs)) le) (any_values (v ∷ vs))

after_scripts : (image save : Option Text) (r v : Text) (vs : List Text)
    → or_else (defaults_fault (settled top.rules (held (found_rows image save r) (codes "scripts") (v ∷ vs))).rows top.rules)
    (check_fault top (finished top.rules (held (found_rows image save r) (codes "scripts") (v ∷ vs))) false) ≡ []
unfolding clap_on_literals
after_scripts None None r v vs = refl
after_scripts (Some i) None r v vs = refl
after_scripts None (Some s) r v vs = refl
after_scripts (Some i) (Some s) r v vs = refl

end_at_scripts : (image save : Option Text) (r v : Text) (vs : List Text) → length (v ∷ vs) ≤ 64
    → end_fault top (held (found_rows image save r) (codes "scripts") (v ∷ vs)) ≡ []
end_at_scripts image save r v vs le = ap₂ or_else (settle_scripts (found_rows image save r) v vs le) (after_scripts image save r v vs)

all_words : (image save : Option Text) (r : Text) (scripts : List Text) → PlainOption image → PlainOption save → IsPlain r → AllPlain scripts
    → length scripts ≤ 64 → Taken top (option_before (codes "--image") image (option_before (codes "--save") save (r ∷ scripts)))
all_words image save r [] p q pr ps le = record {
  end = behind_rules image save r;
  waiting = idle;
  position = 2;
  whole = then top _ (standing (before_rules image save) idle 1) _ _ (r ∷ []) _ (options image save (r ∷ []) p q) (rules_word image save r [] pr);
  right = end_at_rules image save r;
}
all_words image save r (s ∷ scripts) p q pr (one_plain ps pss) le = record {
  end = held (found_rows image save r) (codes "scripts") (s ∷ scripts);
  waiting = positional;
  position = 2;
  whole = then top _ (standing (before_rules image save) idle 1) _ _ (r ∷ s ∷ scripts) _ (options image save (r ∷ s ∷ scripts) p q)
      (then top _ (standing (behind_rules image save r) idle 2) _ _ (s ∷ scripts) _ (rules_word image save r (s ∷ scripts) pr)
      (then top _ (at_scripts (found_rows image save r) (s ∷ [])) _ _ scripts _ (first_script image save r s scripts ps)
      (more_scripts (found_rows image save r) (s ∷ []) scripts pss)));
  right = end_at_scripts image save r s scripts le;
}

pub taken_in_order : (word : Text) (image save : Option Text) (r : Text) (scripts : List Text) → PlainOption image → PlainOption save
    → IsPlain r → AllPlain scripts → length scripts ≤ 64
    → fault_of sessions_app (word ∷ option_before (codes "--image") image (option_before (codes "--save") save (r ∷ scripts))) ≡ []
taken_in_order word image save r scripts p q pr ps le = faults_of_words sessions_app _ refl (all_words image save r scripts p q pr ps le)
