use Rattle.std.proofs.Common.{◌≡◌, ◌≢◌, ℕ, ◌<◌, ◌≤◌, Bool, List, length, take, sym, ap, ◌∙◌, subst, arith}
use Rattle.ml_bits.specs.BitList.{IsCommonLength}
use Rattle.ml_region.specs.Prefixes.{bits_at}
use Rattle.ml_region.proofs.OwnerSearch.{owner_at_last, begins_front, less_common, owner_of_common}
use Rattle.ml_region.proofs.searches.owner_within.Goals as goal

pub returns-then-common-len : goal.returns-then-common-len
returns-then-common-len g c =
    let ps : List (List Bool) = g.P.Prefixes.prefixes c.args.prefixes.now in
    let last : ℕ = c.last_up_to-last.result in
    let common : ℕ = c.common_len-common.result in
    let alike : IsCommonLength (bits_at ps last) c.args.key.now.bits common =
    subst (λ p. IsCommonLength p c.args.key.now.bits common) c.prefix-prefix.ensures c.common_len-common.ensures in
    let all : common ≡ length (bits_at ps last) = c.if-common-len.true ∙ c.len.ensures.length ∙ ap length c.prefix-prefix.ensures in
    let fits : c.shorter.front ≤ length c.args.key.now.bits = omega (arith, c.shorter.invariant.0, c.requires.within) in
    c.shorter.invariant.1 last (owner_at_last ps (take c.shorter.front c.args.key.now.bits) last c.requires.rooted.rising c.last_up_to-last.ensures
    (begins_front ps c.args.key.now.bits c.shorter.front last common fits c.last_up_to-last.ensures alike all))

pub shorter-smaller : goal.shorter-smaller
shorter-smaller g c =
    let ps : List (List Bool) = g.P.Prefixes.prefixes c.args.prefixes.now in
    let last : ℕ = c.last_up_to-last.result in
    let common : ℕ = c.common_len-common.result in
    let alike : IsCommonLength (bits_at ps last) c.args.key.now.bits common =
    subst (λ p. IsCommonLength p c.args.key.now.bits common) c.prefix-prefix.ensures c.common_len-common.ensures in
    let some : common ≢ length (bits_at ps last) = λ e. c.if-common-len.false (e ∙ ap length (sym c.prefix-prefix.ensures) ∙ sym c.len.ensures.length) in
    less_common ps c.args.key.now.bits c.shorter.front last common c.last_up_to-last.ensures alike some

pub shorter-preserved : goal.shorter-preserved
shorter-preserved g c =
    let ps : List (List Bool) = g.P.Prefixes.prefixes c.args.prefixes.now in
    let last : ℕ = c.last_up_to-last.result in
    let common : ℕ = c.common_len-common.result in
    let alike : IsCommonLength (bits_at ps last) c.args.key.now.bits common =
    subst (λ p. IsCommonLength p c.args.key.now.bits common) c.prefix-prefix.ensures c.common_len-common.ensures in
    let some : common ≢ length (bits_at ps last) = λ e. c.if-common-len.false (e ∙ ap length (sym c.prefix-prefix.ensures) ∙ sym c.len.ensures.length) in
    let less : common < c.shorter.front = less_common ps c.args.key.now.bits c.shorter.front last common c.last_up_to-last.ensures alike some in
    let fits : c.shorter.front ≤ length c.args.key.now.bits = omega (arith, c.shorter.invariant.0, c.requires.within) in (
      omega (arith, c.shorter.invariant.0),
      λ m owner. c.shorter.invariant.1 m
          (owner_of_common ps c.args.key.now.bits c.shorter.front last common m c.requires.rooted.rising fits c.last_up_to-last.ensures alike some owner),
    )
