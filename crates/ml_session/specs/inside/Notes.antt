-- The notes that a desk keeps of what another one is asked. No public clause cites this module.
use Rattle.std.specs.Prelude.{◌≡◌, Bool, false, List, [], ◌++◌}
use Rattle.std.proofs.Common.{sym, ◌∙◌, ap, append_assoc, append-nil}
use Rattle.ml_search.specs.declared.operation.Op.{Op}
use Rattle.ml_search.specs.declared.operation.Reply.{Reply}

-- operations with their replies
abbrev pub Entries : Type 0
Entries = List (Op × Reply)

-- a log and its notes grew by the same entries
pub record HasNoted (log log' notes notes' : Entries) : Type 0 where
  pub added : Entries
  pub logged : log' ≡ log ++ added
  pub noted : notes' ≡ notes ++ added

-- where notes are whole, they were, and they grew as the log did
abbrev pub Notes : Bool → Bool → Entries → Entries → Entries → Entries → Type 0
Notes broken broken' log log' notes notes' =
    broken' ≡ false → (broken ≡ false) × HasNoted log log' notes notes'

pub notes_none : (b : Bool) (l n : Entries) → Notes b b l l n n
notes_none b l n h =
    (h, record { added = []; logged = sym (append-nil l); noted = sym (append-nil n) })

pub notes_on : (a b c : Bool) (l k m : Entries) (n o p : Entries) → Notes a b l k n o →
    Notes b c k m o p → Notes a c l m n p
notes_on a b c l k m n o p f g h =
    let second = g h in
    let first = f second.0 in (
      first.0,
      record {
        added = first.1.added ++ second.1.added;
        logged = second.1.logged ∙ ap (λ (x : Entries). x ++ second.1.added) first.1.logged
            ∙ append_assoc l first.1.added second.1.added;
        noted = second.1.noted ∙ ap (λ (x : Entries). x ++ second.1.added) first.1.noted
            ∙ append_assoc n first.1.added second.1.added;
      },
    )
