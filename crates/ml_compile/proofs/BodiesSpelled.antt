-- Code that spells bodies, a goal more at a time.
use Rattle.std.proofs.Common.{◌≡◌, ℕ, suc, ◌+◌, ◌-◌, ◌<◌, List, [], ◌∷◌, ◌++◌, length, set, refl, sym, ap, subst, arith, length-append}
use Rattle.std.proofs.lemmas.List.{append-nil, length-set}
use mathlib.Core.List.{IsPrefix}
use Rattle.ml_term.specs.Tree.{Tree}
use Rattle.ml_term.specs.declared.declaration.Pred.{Pred}
use Rattle.ml_search.specs.Bodies.{Body, true_goal, fail_goal, cut, conjunction, disjunction, if_then, if_then_else}
use Rattle.ml_compile.specs.declared.instr.Instr.{Instr}
use Rattle.ml_compile.specs.declared.instr.Instr.TheVariants.{Call, Proceed, True, Fail, Cut, Try, Choose}
use Rattle.ml_compile.specs.Spells.{StandsAt, SpellsGoal, true_spelled, fail_spelled, cut_spelled, disjunction_spelled, if_then_else_spelled, if_then_spelled, call_spelled, Spells, goal_spelled, conjunction_spelled, IsBlock, block, called_body}
use Rattle.ml_compile.specs.inside.Appended.{Built, Spelled, Blocked}
use Rattle.ml_compile.proofs.CodeKept.{builds_kept, spells_kept, block_kept, keeps_prefix, keeps_set, stands_last, stands_set, prefix_on, prefix_length, prefix_set, one_more}

spells_at : {code : List Instr} {p q r : ℕ} {b : Body} → q ≡ r → Spells code p b q → Spells code p b r
spells_at {code} {p} {q} {r} {b} e s = subst (λ (x : ℕ). Spells code p b x) e s

block_at : {code : List Instr} {p q : ℕ} {b : Body} → p ≡ q → IsBlock code p b → IsBlock code q b
block_at {code} {p} {q} {b} e s = subst (λ (x : ℕ). IsBlock code x b) e s

pub spells_true : (old : List Instr) → Spelled old true_goal (old ++ True ∷ [])
spells_true old = record { begins = (True ∷ [], refl); spells = spells_at (one_more old True) (goal_spelled (true_spelled (stands_last old True))) }

pub spells_fail : (old : List Instr) → Spelled old fail_goal (old ++ Fail ∷ [])
spells_fail old = record { begins = (Fail ∷ [], refl); spells = spells_at (one_more old Fail) (goal_spelled (fail_spelled (stands_last old Fail))) }

pub spells_cut : (old : List Instr) → Spelled old cut (old ++ Cut ∷ [])
spells_cut old = record { begins = (Cut ∷ [], refl); spells = spells_at (one_more old Cut) (goal_spelled (cut_spelled (stands_last old Cut))) }

-- a call behind its arguments
pub spells_call : (old mid : List Instr) (g : Pred) (ts : List Tree) → Built old ts mid → length ts ≡ g.arity
    → Spelled old (called_body g.name ts) (mid ++ Call g ∷ [])
spells_call old mid g ts b len =
    let new : List Instr = mid ++ Call g ∷ [] in
    let grown : IsPrefix mid new = (Call g ∷ [], refl) in
    record {
      begins = prefix_on old mid new b.begins grown;
      spells = spells_at (one_more mid (Call g))
          (goal_spelled (call_spelled (builds_kept 0 mid new (keeps_prefix mid new grown) (omega arith) (b.builds [])) (stands_last mid (Call g)) len refl));
    }

pub spells_conjunction : (old mid new : List Instr) (a b : Body) → Spelled old a mid → Spelled mid b new → Spelled old (conjunction a b) new
spells_conjunction old mid new a b s t = record {
  begins = prefix_on old mid new s.begins t.begins;
  spells = conjunction_spelled (spells_kept 0 mid new (keeps_prefix mid new t.begins) (omega arith) s.spells) t.spells;
}

pub ends_block : (old mid : List Instr) (b : Body) → Spelled old b mid → Blocked old b (mid ++ Proceed ∷ [])
ends_block old mid b s =
    let new : List Instr = mid ++ Proceed ∷ [] in
    let grown : IsPrefix mid new = (Proceed ∷ [], refl) in
    record {
      begins = prefix_on old mid new s.begins grown;
      block = block (spells_kept 0 mid new (keeps_prefix mid new grown) (omega arith) s.spells) (stands_last mid Proceed);
    }

-- a block stays where more is appended and an instruction before it is written anew
block_stays : (old mid new : List Instr) (b : Body) (k : ℕ) (x : Instr) → Blocked old b mid → IsPrefix mid new → k < length old
    → IsBlock (set new k x) (length old) b
block_stays old mid new b k x s p low =
    block_kept (suc k) new (set new k x) (keeps_set new k x) (omega arith) (block_kept 0 mid new (keeps_prefix mid new p) (omega arith) s.block)

-- an instruction that is written in the end, before the code of its blocks
closes : (old new : List Instr) (at : ℕ) (x : Instr) (b : Body) → at ≡ length old → at < length new → IsPrefix old new
    → (StandsAt (set new at x) at x → SpellsGoal (set new at x) at b (at + (length new - at))) → Spelled old b (set new at x)
closes old new at x b ea low grown by =
    let last : List Instr = set new at x in
    let end : at + (length new - at) ≡ length last = omega (arith, length-set new at x, low) in
    let whole : Spells last at b (length last) = spells_at end (goal_spelled (by (stands_set new at x low))) in
    record { begins = prefix_set old new at x (omega (arith, ea)) grown; spells = subst (λ (p : ℕ). Spells last p b (length last)) ea whole }

-- two blocks behind a place that is written in the end
pub spells_disjunction : (old one mid new last : List Instr) (a b : Body) (at second : ℕ) → one ≡ old ++ Try 0 0 ∷ [] → at ≡ length old → second ≡ length mid
    → Blocked one a mid → Blocked mid b new → last ≡ set new at (Try (second - at) (length new - at)) → Spelled old (disjunction a b) last
spells_disjunction old one mid new last a b at second eo ea es s t el =
    let x : Instr = Try (second - at) (length new - at) in
    let first : length one ≡ at + 1 = omega (arith, ap length eo, length-append old (Try 0 0 ∷ []), ea) in
    let k = prefix_length one mid s.begins in
    let l = prefix_length mid new t.begins in
    let low : at < length new = omega (arith, first, k, l) in
    let grown : IsPrefix old new = prefix_on old one new (Try 0 0 ∷ [], sym eo) (prefix_on one mid new s.begins t.begins) in
    let left : IsBlock (set new at x) (at + 1) a = block_at first (block_stays one mid new a at x s t.begins (omega (arith, first))) in
    let right : IsBlock (set new at x) (at + (second - at)) b =
    block_at (omega (arith, es, first, k)) (block_stays mid new new b at x t ([], append-nil new) (omega (arith, first, k))) in
    rw el (closes old new at x (disjunction a b) ea low grown (λ i. disjunction_spelled i left right))

-- three blocks behind a place that is written in the end
module _ (old one mid late new : List Instr) (c t e : Body) (at second third : ℕ) (eo : one ≡ old ++ Choose 0 0 0 ∷ []) (ea : at ≡ length old)
    (es : second ≡ length mid) (et : third ≡ length late) (sc : Blocked one c mid) (st : Blocked mid t late) (se : Blocked late e new) where
  three_blocks : (b : Body) (x : Instr)
      → (StandsAt (set new at x) at x → IsBlock (set new at x) (at + 1) c → IsBlock (set new at x) (at + (second - at)) t
      → IsBlock (set new at x) (at + (third - at)) e → SpellsGoal (set new at x) at b (at + (length new - at)))
      → Spelled old b (set new at x)
  three_blocks b x by =
      let first : length one ≡ at + 1 = omega (arith, ap length eo, length-append old (Choose 0 0 0 ∷ []), ea) in
      let k = prefix_length one mid sc.begins in
      let l = prefix_length mid late st.begins in
      let m = prefix_length late new se.begins in
      let low : at < length new = omega (arith, first, k, l, m) in
      let behind : IsPrefix mid new = prefix_on mid late new st.begins se.begins in
      let grown : IsPrefix old new = prefix_on old one new (Choose 0 0 0 ∷ [], sym eo) (prefix_on one mid new sc.begins behind) in
      let condition : IsBlock (set new at x) (at + 1) c = block_at first (block_stays one mid new c at x sc behind (omega (arith, first))) in
      let then : IsBlock (set new at x) (at + (second - at)) t =
      block_at (omega (arith, es, first, k)) (block_stays mid late new t at x st se.begins (omega (arith, first, k))) in
      let otherwise : IsBlock (set new at x) (at + (third - at)) e =
      block_at (omega (arith, et, first, k, l)) (block_stays late new new e at x se ([], append-nil new) (omega (arith, first, k, l))) in
      closes old new at x b ea low grown (λ i. by i condition then otherwise)

  pub spells_if_then_else : (last : List Instr) → last ≡ set new at (Choose (second - at) (third - at) (length new - at))
      → Spelled old (if_then_else c t e) last
  spells_if_then_else last el = rw el (three_blocks (if_then_else c t e) _ (λ i condition then otherwise. if_then_else_spelled i condition then otherwise))

  pub spells_if_then : (last : List Instr) → e ≡ fail_goal → last ≡ set new at (Choose (second - at) (third - at) (length new - at))
      → Spelled old (if_then c t) last
  spells_if_then last fails el =
      let x : Instr = Choose (second - at) (third - at) (length new - at) in
      rw el (three_blocks (if_then c t) x (λ i condition then otherwise.
      if_then_spelled i condition then (subst (λ (b : Body). IsBlock (set new at x) (at + (third - at)) b) fails otherwise)))

-- the same, of what is that body
pub spelled_so : (old new new' : List Instr) (b b' : Body) → b ≡ b' → new ≡ new' → Spelled old b' new' → Spelled old b new
spelled_so old new new' b b' e e' s = rw (e, e') s
