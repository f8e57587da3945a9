use Rattle.std.proofs.Common.{◌≡◌, ◌<◌, false, List, length, sym, ap, ◌∙◌, subst, arith}
use Rattle.std.specs.Prelude.{MatchOption}
use Rattle.std.specs.Borrow.{Bor}
use Rattle.std.specs.Option.{option_copied}
use Rattle.std.specs.declared.cmp.Ordering.TheVariants.{Less}
use Rattle.ml_file.proofs.StoredHeads.{head_from_of}
use Rattle.ml_region.specs.Below.{IsEndOfBelow}
use Rattle.ml_region.specs.Regions.{Region, region_at, region_prefixes}
use Rattle.ml_region.specs.declared.item.Item.{Item}
use Rattle.ml_term.specs.Keys.{key_cmp}
use Rattle.ml_term.specs.Patterns.{may_hold, pattern_of}
use Rattle.ml_term.specs.Seen.{seen}
use Rattle.ml_term.specs.declared.declaration.Decl.{Decl}
use Rattle.ml_lookup.proofs.Walking.{IsWalking, none_below, stopped, walked, walking_on, walking_past}
use Rattle.ml_lookup.proofs.next.next_from.Goals as goal

pub returns-then-comes_before : goal.returns-then-comes_before
returns-then-comes_before c items next has =
    let regions : List Region = c.args.file.now.regions in
    let i = c.each.i in
    let same = c.regions-regions.ensures in
    let within : i < length regions = omega (arith, c.each-test.true, c.len.ensures.length, ap length same) in
    let prefix : c.prefix-prefix.result.now.bits ≡ (region_at regions i).prefix =
    c.prefix-prefix.ensures.bits ∙ ap (λ (rs : List Region). (region_at rs i).prefix) same in
    stopped c.args.file.now.decl.kind (seen c.args.head.now) (option_copied c.args.after) regions i c.each.best c.len-kept.ensures.well_placed
    (c.each.invariant items next has) within
    (subst (λ p. MatchOption c.each.best ⊥ (λ (y : Bor Item). key_cmp y.now.key.bits p ≡ Less)) prefix (c.comes_before.ensures.0 c.if-comes_before.true))

pub each-preserved-then-may_hold : goal.each-preserved-then-may_hold
each-preserved-then-may_hold c items next has =
    let kind = c.args.file.now.decl.kind in
    let pattern = seen c.args.head.now in
    let after = option_copied c.args.after in
    let regions : List Region = c.args.file.now.regions in
    let within : c.each.i < length regions = omega (arith, c.each-test.true, c.len.ensures.length, ap length c.regions-regions.ensures) in
    let was : IsWalking kind pattern after regions c.each.i c.each.best = c.each.invariant items next has in
    walking_on kind pattern after regions c.each.i c.each.best c.in_ok-best.best within was (c.in_ok-best.ensures was.items was.next)

pub each-preserved : goal.each-preserved
each-preserved c items next has =
    let kind = c.args.file.now.decl.kind in
    let decl : Decl = c.args.file.now.decl in
    let pattern = seen c.args.head.now in
    let after = option_copied c.args.after in
    let regions : List Region = c.args.file.now.regions in
    let i = c.each.i in
    let same = c.regions-regions.ensures in
    let prefix : c.prefix-prefix.result.now.bits ≡ (region_at regions i).prefix =
    c.prefix-prefix.ensures.bits ∙ ap (λ (rs : List Region). (region_at rs i).prefix) same in
    let asked : c.pattern_of-pattern.result ≡ pattern_of decl.keys pattern =
    c.pattern_of-pattern.ensures ∙ ap (λ (d : Decl). pattern_of d.keys pattern) c.decl.ensures in
    let lacks : may_hold (pattern_of decl.keys pattern) (region_at regions i).prefix ≡ false =
    ap (may_hold (pattern_of decl.keys pattern)) (sym prefix) ∙ ap (λ q. may_hold q c.prefix-prefix.result.now.bits) (sym asked)
    ∙ sym c.may_hold.ensures ∙ c.if-may_hold.false in
    walking_past kind pattern after regions i c.end_of_below-i.result c.each.best (c.each.invariant items next has)
    (none_below decl regions c.args.file.now.room pattern after i c.end_of_below-i.result c.len-kept.ensures.well_placed c.len-kept.ensures.kept
    (head_from_of decl.pred.name decl.pred.arity pattern c.requires.declared) lacks
    (subst (λ rs. IsEndOfBelow (region_prefixes rs) i c.end_of_below-i.result) same c.end_of_below-i.ensures))

pub returns : goal.returns
returns c items next has =
    let regions : List Region = c.args.file.now.regions in
    walked c.args.file.now.decl.kind (seen c.args.head.now) (option_copied c.args.after) regions c.each.i c.each.best (c.each.invariant items next has)
    (omega (arith, c.each-test.false, c.len.ensures.length, ap length c.regions-regions.ensures))
