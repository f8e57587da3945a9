-- clap takes the words of a check and of a made run.
use Rattle.std.specs.Prelude.{◌≡◌, List, [], ◌∷◌, None, Some, codes}
use Rattle.std.proofs.Common.{refl}
use Rattle.clap.specs.Walk.{Held, Row, Text, idle, nothing_held, walk_from}
use Rattle.clap.specs.Simple.{Shape, built}
use Rattle.clap.specs.Faults.{fault_of}
use Rattle.clap.proofs.OnLiterals.{clap_on_literals}
use Rattle.ml_words.specs.Commands.{check_app, make_app}
use Rattle.ml_words.proofs.PlainWords.{IsPlain, Taken, end_fault, faults_of_words, plain_word_leads, standing, then}
use Rattle.ml_words.proofs.TakenInOrder.{held, row}

check_end : (r i : Text) → end_fault (built check_app).top (held (row (codes "rules") (r ∷ []) ∷ []) (codes "image") (i ∷ [])) ≡ []
unfolding clap_on_literals
check_end r i = refl

pub check_taken : (word r i : Text) → IsPlain r → IsPlain i → fault_of check_app (word ∷ r ∷ i ∷ []) ≡ []
check_taken word r i p q =
    let top = (built check_app).top in
    let behind_rules = held [] (codes "rules") (r ∷ []) in
    let end = held (row (codes "rules") (r ∷ []) ∷ []) (codes "image") (i ∷ []) in
    faults_of_words check_app (r ∷ i ∷ []) refl (record {
      end = end;
      waiting = idle;
      position = 3;
      whole = then top _ (standing behind_rules idle 2) _ _ (i ∷ []) _
          (plain_word_leads top nothing_held idle 1 (standing behind_rules idle 2) r (i ∷ []) p refl refl)
          (plain_word_leads top behind_rules idle 2 (standing end idle 3) i [] q refl refl);
      right = check_end r i;
    })

make_end : (n : Text) → end_fault (built make_app).top (held [] (codes "number") (n ∷ [])) ≡ []
unfolding clap_on_literals
make_end n = refl

pub make_taken : (word n : Text) → IsPlain n → fault_of make_app (word ∷ n ∷ []) ≡ []
make_taken word n p =
    let end = held [] (codes "number") (n ∷ []) in
    faults_of_words make_app (n ∷ []) refl (record {
      end = end;
      waiting = idle;
      position = 2;
      whole = plain_word_leads (built make_app).top nothing_held idle 1 (standing end idle 2) n [] p refl refl;
      right = make_end n;
    })
