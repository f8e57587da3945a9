use Rattle.std.proofs.Common.{◌≡◌, ℕ, Bool, false, List, [], ◌∷◌, ◌++◌, ◌+◌, ◌<◌, ap, sym, subst, refl, ◌∙◌, Some, length, get_or, arith}
use Rattle.std.specs.Prelude.{IsSome, ◌==◌, ◌&&◌, Option, if◌then◌else◌}
use Rattle.std.proofs.lemmas.List.{length-map, length_push, get_or-map}
use Rattle.ml_bits.specs.BitList.{BitList}
use Rattle.ml_desk.specs.declared.mode.Mode.{Mode}
use Rattle.ml_locks.specs.Changes.{stronger}
use Rattle.ml_locks.specs.Modes.{held_in, same_bits}
use Rattle.ml_locks.specs.Requests.{prefixes_of}
use Rattle.ml_locks.specs.inside.Waiting.{stands_in_way}
use Rattle.ml_locks.proofs.GrantedInTurn.{Noted, none_noted, all_taken_back, all_granted, still_free, noted_more, last_within, last_held, last_weaker, noted_fewer}
use Rattle.ml_locks.proofs.file_locks.FileLocks.grant_all.Goals as goal

-- the bits of the prefix at the place of the note that was taken off
taken_at : (prefixes : List BitList) (rest : List (Option Mode)) (i : ℕ) (p : BitList) → i ≡ length rest → length rest < length (prefixes_of prefixes)
    → p ≡ get_or prefixes i p → p.bits ≡ get_or (prefixes_of prefixes) (length rest) []
taken_at prefixes rest i p same l is = sym (ap (λ k. get_or (prefixes_of prefixes) k []) (sym same)
    ∙ (get_or-map (λ (q : BitList). q.bits) prefixes i p [] (omega (arith, same, l, length-map prefixes (λ (q : BitList). q.bits)))
    ∙ ap (λ (q : BitList). q.bits) (sym is)))

pub loop-i-init : goal.loop-i-init
loop-i-init c = record {
  count = ap length c.in_ok-before.ensures.items;
  noted = subst (λ bs. Noted c.args.self.now c.args.session (prefixes_of c.args.prefixes.now) c.args.mode bs c.args.self.now)
      (sym c.in_ok-before.ensures.items) (none_noted c.args.self.now c.args.session (prefixes_of c.args.prefixes.now) c.args.mode);
}

pub grant_noted-requires-clause-free : goal.grant_noted-requires-clause-free
grant_noted-requires-clause-free c k =
    let us = prefixes_of c.args.prefixes.now in
    let within : length c.loop-i.before.items < length us =
    omega (arith, length-map c.args.prefixes.now (λ (p : BitList). p.bits), c.loop-i.invariant.count, c.loop-i-test.true) in
    subst (λ i. stands_in_way c.args.session c.args.mode (held_in c.loop-i.self k (get_or us i [])) k ≡ false) c.loop-i.invariant.count
    (still_free c.args.self.now c.args.session us c.args.mode c.loop-i.before.items c.loop-i.self c.loop-i.invariant.noted within k (c.requires k))

pub loop-held-init : goal.loop-held-init
loop-held-init c =
    let noted = Noted c.args.self.now c.args.session (prefixes_of c.args.prefixes.now) c.args.mode in
    subst (noted c.grant_noted.new.before.items) (sym c.in-Err.ensures.err)
    (subst (λ bs. noted bs c.loop-i.self) (sym c.in-Err.ensures.kept) c.loop-i.invariant.noted)

pub bounds-prefixes-len : goal.bounds-prefixes-len
bounds-prefixes-len c =
    omega (
      arith,
      length-map c.args.prefixes.now (λ (p : BitList). p.bits),
      c.len.ensures,
      c.pop.new.self.ok.0,
      last_within c.args.self.now c.args.session (prefixes_of c.args.prefixes.now) c.args.mode c.loop-held.before.items c.pop.new.self.items
          c.in-Some.held c.loop-held.self c.in-Some.ensures.items c.loop-held.invariant,
    )

pub weaken-requires-clause-held : goal.weaken-requires-clause-held
weaken-requires-clause-held c =
    let within = last_within c.args.self.now c.args.session (prefixes_of c.args.prefixes.now) c.args.mode c.loop-held.before.items
    c.pop.new.self.items c.in-Some.held c.loop-held.self c.in-Some.ensures.items c.loop-held.invariant in
    let at = taken_at c.args.prefixes.now c.pop.new.self.items c.len.result c.index-prefixes-len.result
    (omega (arith, c.len.ensures, c.pop.new.self.ok.0)) within c.index-prefixes-len.is in
    subst (λ p. IsSome (held_in c.loop-held.self c.args.session p)) (sym at)
    (last_held c.args.self.now c.args.session (prefixes_of c.args.prefixes.now) c.args.mode c.loop-held.before.items c.pop.new.self.items
    c.in-Some.held c.loop-held.self c.in-Some.ensures.items c.loop-held.invariant)

pub weaken-requires-clause-weaker : goal.weaken-requires-clause-weaker
weaken-requires-clause-weaker c e =
    let within = last_within c.args.self.now c.args.session (prefixes_of c.args.prefixes.now) c.args.mode c.loop-held.before.items
    c.pop.new.self.items c.in-Some.held c.loop-held.self c.in-Some.ensures.items c.loop-held.invariant in
    let at = taken_at c.args.prefixes.now c.pop.new.self.items c.len.result c.index-prefixes-len.result
    (omega (arith, c.len.ensures, c.pop.new.self.ok.0)) within c.index-prefixes-len.is in
    ap (held_in c.loop-held.self c.args.session) at
    ∙ last_weaker c.args.self.now c.args.session (prefixes_of c.args.prefixes.now) c.args.mode c.loop-held.before.items c.pop.new.self.items
    c.in-Some.held c.loop-held.self c.in-Some.ensures.items c.loop-held.invariant e

pub loop-held-smaller : goal.loop-held-smaller
loop-held-smaller c = omega (arith, c.in-Some.ensures.cases, c.pop.new.self.ok.0, c.loop-held.before.ok.0)

pub loop-held-preserved : goal.loop-held-preserved
loop-held-preserved c =
    let within = last_within c.args.self.now c.args.session (prefixes_of c.args.prefixes.now) c.args.mode c.loop-held.before.items
    c.pop.new.self.items c.in-Some.held c.loop-held.self c.in-Some.ensures.items c.loop-held.invariant in
    let at = taken_at c.args.prefixes.now c.pop.new.self.items c.len.result c.index-prefixes-len.result
    (omega (arith, c.len.ensures, c.pop.new.self.ok.0)) within c.index-prefixes-len.is in
    noted_fewer c.args.self.now c.args.session (prefixes_of c.args.prefixes.now) c.args.mode c.loop-held.before.items c.pop.new.self.items
    c.in-Some.held c.loop-held.self c.in-Some.ensures.items c.loop-held.invariant c.weaken.new.self
    (subst (λ p. (s : ℕ) (u : List Bool) → held_in c.weaken.new.self s u ≡
    (if (s == c.args.session) && same_bits u p then c.in-Some.held else held_in c.loop-held.self s u)) at c.weaken.ensures)

pub returns-in-Err-clause-err : goal.returns-in-Err-clause-err
returns-in-Err-clause-err c = all_taken_back c.args.self.now c.args.session (prefixes_of c.args.prefixes.now) c.args.mode c.loop-held.self
    (subst (λ bs. Noted c.args.self.now c.args.session (prefixes_of c.args.prefixes.now) c.args.mode bs c.loop-held.self) (empty _ (omega (
      arith,
      c.in_default-pop.ensures.cases.0,
      c.loop-held.before.ok.0,
    ))) c.loop-held.invariant)
  where
    empty : (bs : List (Option Mode)) → length bs ≡ 0 → bs ≡ []
    empty [] e = refl
    empty (b ∷ bs) e = cc

pub loop-i-preserved : goal.loop-i-preserved
loop-i-preserved c =
    let us = prefixes_of c.args.prefixes.now in
    let within : length c.loop-i.before.items < length us =
    omega (arith, length-map c.args.prefixes.now (λ (p : BitList). p.bits), c.loop-i.invariant.count, c.loop-i-test.true) in
    record {
      count = ap length c.in_default.ensures.noted ∙ (length_push c.loop-i.before.items _ ∙ ap (λ n. n + 1) c.loop-i.invariant.count);
      noted = noted_more c.args.self.now c.args.session us c.args.mode c.loop-i.before.items c.loop-i.self within c.grant_noted.new.before.items
          c.grant_noted.new.self
          (subst (λ i. c.grant_noted.new.before.items ≡ c.loop-i.before.items ++ held_in c.loop-i.self c.args.session (get_or us i []) ∷ [])
          (sym c.loop-i.invariant.count) c.in_default.ensures.noted)
          (subst (λ i. (s : ℕ) (u : List Bool) → held_in c.grant_noted.new.self s u ≡
          (if (s == c.args.session) && same_bits u (get_or us i []) then Some (stronger c.args.mode (held_in c.loop-i.self s u))
          else held_in c.loop-i.self s u)) (sym c.loop-i.invariant.count) c.in_default.ensures.ok)
          c.loop-i.invariant.noted;
    }

pub returns-clause-ok : goal.returns-clause-ok
returns-clause-ok c = all_granted c.args.self.now c.args.session (prefixes_of c.args.prefixes.now) c.args.mode c.loop-i.before.items c.loop-i.self
    (omega (arith, length-map c.args.prefixes.now (λ (p : BitList). p.bits), c.loop-i.invariant.count, c.loop-i-test.false)) c.loop-i.invariant.noted
