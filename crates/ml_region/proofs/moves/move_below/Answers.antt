use Rattle.std.proofs.Common.{◌≡◌, ℕ, ◌<◌, ◌≤◌, Bool, true, false, List, [], length, get_or, sym, ap, ◌∙◌, arith}
use Rattle.std.proofs.lemmas.Bool.{false_from_ne_true}
use Rattle.std.proofs.lemmas.List.{get_or_default}
use Rattle.ml_key.proofs.BitBeginnings.{begun, begins_so}
use Rattle.ml_term.specs.Patterns.{begins}
use Rattle.ml_region.specs.inside.Stored.{page_at}
use Rattle.ml_region.specs.declared.item.Item.{Item}
use Rattle.ml_region.proofs.MovedItems.{next_room, next_place, moving_past, moving_over}
use Rattle.ml_region.proofs.moves.move_below.Goals as goal
use Rattle.ml_region.proofs.moves.move_below.Goals.{then-is_prefix_of, else-is_prefix_of}

pub move_to_end-requires-clause-few : goal.move_to_end-requires-clause-few
move_to_end-requires-clause-few c =
    next_room c.args.pages.now c.args.from c.args.to c.args.prefix.now.bits c.each.pages c.each.j c.each.left c.requires.to c.each.invariant c.each-test.true
    c.requires.few

pub overflow_add-j : goal.overflow_add-j
overflow_add-j c =
    let small : c.each.j ≤ 31 = next_place c.args.pages.now c.args.from c.args.to c.args.prefix.now.bits c.each.pages c.each.j c.each.left c.each.invariant
    c.requires.few in
    omega arith

pub each-preserved : goal.each-preserved
each-preserved c =
    let pages : List (List Item) = c.args.pages.now in
    let now : List (List Item) = c.each.pages in
    let from : ℕ = c.args.from in
    let prefix : List Bool = c.args.prefix.now.bits in
    let x : Item = c.item.result.now in
    let long : length now ≡ length pages = c.each.auto.pages in
    let inside : from < length now = omega (arith, c.requires.from) in
    let is : x ≡ get_or (page_at now from) c.each.j x =
    c.item.ensures ∙ ap (λ ps. get_or ps c.each.j x) (get_or_default now from c.index-pages-from-in-each.result [] inside) in
    elim c.if-is_prefix_of.branch [
      | then-is_prefix_of w ↦
          let t : begins prefix x.key.bits ≡ true = begins_so prefix x.key.bits (c.is_prefix_of.ensures.0 w.if-is_prefix_of.true) in
          rw (w.pages-is, w.j-is)
          (moving_over pages from c.args.to prefix now w.move_to_end.new.pages c.each.j c.each.left x c.requires.from c.requires.to c.requires.apart
          c.each.invariant c.each-test.true is t
          w.move_to_end.ensures)
      | else-is_prefix_of w ↦
          let t : begins prefix x.key.bits ≡ false =
          false_from_ne_true (begins prefix x.key.bits) (λ b. let e : c.is_prefix_of.result ≡ true = c.is_prefix_of.ensures.1 (begun prefix x.key.bits b) in
          let f : false ≡ true = sym w.if-is_prefix_of.false ∙ e in cc) in
          rw (w.pages-is, w.j-is)
          (moving_past pages from c.args.to prefix now c.each.j c.each.left x c.requires.from c.requires.apart c.each.invariant c.each-test.true is t)
    ]
