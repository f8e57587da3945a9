use Rattle.std.proofs.Common.{◌≡◌, ◌≢◌, ◌*◌, ◌<◌, ◌≤◌, ◌^◌, min, length, take, get_or, arith, ap, sym, refl, ◌∙◌}
use Rattle.std.proofs.lemmas.List.{get_or_read}
use Rattle.ml_bits.proofs.CommonLength.{common_all, common_until, common_of}
use Rattle.ml_bits.proofs.bit_list.Bits.common_len.Goals as goal
use Rattle.ml_bits.proofs.bit_list.Bits.common_len.Goals.{then-at-len-via-then-at-len, then-at-len-via-else-at-len+then-at-len-2}

pub returns-then-at-len : goal.returns-then-at-len
returns-then-at-len c =
    let first = ap (λ v. v.bits) c.self.view_is in
    let second = ap (λ v. v.bits) c.other.view_is in
    let within_first : c.common_words-at.result ≤ length c.self.inside.words.items = omega arith in
    let within_second : c.common_words-at.result ≤ length c.other.inside.words.items = omega arith in
    let same : take c.common_words-at.result c.self.inside.words.items ≡ take c.common_words-at.result c.other.inside.words.items =
    ap (take c.common_words-at.result) (sym c.deref.ensures.value) ∙ c.common_words-at.ensures.same
    ∙ ap (take c.common_words-at.result) c.deref-2.ensures.value in
    let all : min c.self.inside.len c.other.inside.len ≤ 64 * c.common_words-at.result =
    elim c.then-at-len.branch [
      | then-at-len-via-then-at-len w ↦ omega (arith, c.self.invariant.packed.enough, w.if-at-len.true)
      | then-at-len-via-else-at-len+then-at-len-2 w ↦ omega (arith, c.other.invariant.packed.enough, w.if-at-len-2.true)
    ] in
    rw c.min-shorter.ensures (common_of _ _ _ _ _ first second
    (common_all _ _ _ _ c.common_words-at.result c.self.invariant.packed c.other.invariant.packed within_first within_second all same))

pub returns : goal.returns
returns c =
    let first = ap (λ v. v.bits) c.self.view_is in
    let second = ap (λ v. v.bits) c.other.view_is in
    let at : c.common_words-at.result < length c.self.inside.words.items = omega arith in
    let at' : c.common_words-at.result < length c.other.inside.words.items = omega arith in
    let same : take c.common_words-at.result c.self.inside.words.items ≡ take c.common_words-at.result c.other.inside.words.items =
    ap (take c.common_words-at.result) (sym c.deref.ensures.value) ∙ c.common_words-at.ensures.same
    ∙ ap (take c.common_words-at.result) c.deref-2.ensures.value in
    let word : c.index.result.now ≡ get_or c.self.inside.words.items c.common_words-at.result 0 =
    get_or_read c.self.inside.words.items c.common_words-at.result c.index.result.now at c.index.ensures 0 in
    let word' : c.index-2.result.now ≡ get_or c.other.inside.words.items c.common_words-at.result 0 =
    get_or_read c.other.inside.words.items c.common_words-at.result c.index-2.result.now at' c.index-2.ensures 0 in
    let fits : get_or c.self.inside.words.items c.common_words-at.result 0 < 2 ^ 64 = omega (arith, word) in
    let fits' : get_or c.other.inside.words.items c.common_words-at.result 0 < 2 ^ 64 = omega (arith, word') in
    let apart : get_or c.self.inside.words.items c.common_words-at.result 0 ≢ get_or c.other.inside.words.items c.common_words-at.result 0 =
    λ e. c.common_words-at.ensures.apart (omega arith) (omega arith)
    (ap (λ ws. get_or ws c.common_words-at.result 0) c.deref.ensures.value ∙ e
    ∙ sym (ap (λ ws. get_or ws c.common_words-at.result 0) c.deref-2.ensures.value)) in
    let alike = c.min.ensures in
    rw (alike, c.min-shorter.ensures, word, word') (common_of _ _ _ _ _ first second
    (common_until _ _ _ _ c.common_words-at.result _ c.self.invariant.packed c.other.invariant.packed at at' same apart fits fits' refl))
