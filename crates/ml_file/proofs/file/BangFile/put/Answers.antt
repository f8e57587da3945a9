use Rattle.std.proofs.Common.{◌≤◌, length, refl, sym, ap, ◌∙◌, subst, arith}
use Rattle.ml_region.specs.Regions.{IsApart}
use Rattle.ml_file.specs.Adding.{HasGrown, IsAdded, IsPresent, MayCome}
use Rattle.ml_file.specs.Files.{File, IsAbsent, IsFile, items_in}
use Rattle.ml_file.specs.PlainList.{IsWith}
use Rattle.ml_file.specs.Settled.{MakesNoneThin}
use Rattle.ml_file.proofs.HeldItems.{absent_from, held_from}
use Rattle.ml_file.proofs.ComingItems.{apart_new, clause_absent, file_more, file_roomier}
use Rattle.ml_file.proofs.NoneThin.{same_none_thin}
use Rattle.ml_file.proofs.file.BangFile.put.Goals as goal

pub returns-in-Some-clause-ok : goal.returns-in-Some-clause-ok
returns-in-Some-clause-ok c =
    let here : IsPresent c.self.inside.regions.regions c.args.item.key.bits c.self.inside.regions.regions =
    record {
      item = c.in-Some._held.now;
      held = held_from c.self.inside.regions.regions c.args.item.key.bits c.in-Some._held.now c.in-Some.ensures;
      same =
          refl;
    } in
    subst (λ rs. IsPresent rs c.args.item.key.bits rs) (ap (λ (f : File). f.regions) c.self.view_is) here

pub grow-requires-clause-apart : goal.grow-requires-clause-apart
grow-requires-clause-apart c =
    subst (λ rs. IsApart rs c.args.item.key.bits) (sym c.in_ok-make_room.ensures.regions)
    (apart_new c.self.inside.decl c.self.inside.regions.regions c.self.inside.regions.room c.args.item c.self.invariant
    (subst (λ (f : File). MayCome f.decl f.regions c.args.item) (sym c.self.view_is) c.requires) (omega arith)
    (absent_from c.self.inside.regions.regions c.args.item.key.bits c.in_default.ensures))

pub invariant_of-self-in_err-grow : goal.invariant_of-self-in_err-grow
invariant_of-self-in_err-grow c =
    let same = c.in_err-grow.ensures.err ∙ c.in_ok-make_room.ensures.regions in
    let more : c.self.inside.regions.room ≤ c.grow.new.regions.room = omega (arith, c.grow.ensures.room, c.in_ok-make_room.ensures.ok) in
    subst (λ rs. IsFile c.self.inside.decl rs c.grow.new.regions.room) (sym same)
    (file_roomier c.self.inside.decl c.self.inside.regions.regions c.self.inside.regions.room c.grow.new.regions.room more c.self.invariant)

pub invariant_of-self-2 : goal.invariant_of-self-2
invariant_of-self-2 c =
    let more : c.self.inside.regions.room ≤ c.grow.new.regions.room = omega (arith, c.grow.ensures.room, c.in_ok-make_room.ensures.ok) in
    let short : length c.args.item.key.bits ≤ c.grow.new.regions.room =
    omega (arith, c.grow.ensures.room, c.in_ok-make_room.ensures.ok, c.len.ensures.length) in
    let with_item : IsWith (items_in c.self.inside.regions.regions) c.args.item (items_in c.grow.new.regions.regions) =
    subst (λ rs. IsWith (items_in rs) c.args.item (items_in c.grow.new.regions.regions)) c.in_ok-make_room.ensures.regions c.in_ok-grow.ensures.more in
    file_more c.self.inside.decl c.self.inside.regions.regions c.grow.new.regions.regions c.grow.new.regions.room c.args.item
    (file_roomier c.self.inside.decl c.self.inside.regions.regions c.self.inside.regions.room c.grow.new.regions.room more c.self.invariant)
    (subst (λ (f : File). MayCome f.decl f.regions c.args.item) (sym c.self.view_is) c.requires) (omega arith) short with_item c.in_ok-grow.ensures.few

pub returns-clause-ok : goal.returns-clause-ok
returns-clause-ok c =
    let with_item : IsWith (items_in c.self.inside.regions.regions) c.args.item (items_in c.grow.new.regions.regions) =
    subst (λ rs. IsWith (items_in rs) c.args.item (items_in c.grow.new.regions.regions)) c.in_ok-make_room.ensures.regions c.in_ok-grow.ensures.more in
    let grown : HasGrown c.self.inside.regions.regions c.args.item c.grow.new.regions.regions =
    subst (λ rs. HasGrown rs c.args.item c.grow.new.regions.regions) c.in_ok-make_room.ensures.regions c.in_ok-grow.ensures.grown in
    let absent : IsAbsent c.self.inside.regions.regions c.args.item.key.bits =
    absent_from c.self.inside.regions.regions c.args.item.key.bits c.in_default.ensures in
    let here : IsAdded c.self.inside.regions.regions c.args.item c.grow.new.regions.regions = record { absent = absent; more = with_item; grown = grown } in
    subst (λ rs. IsAdded rs c.args.item c.grow.new.regions.regions) (ap (λ (f : File). f.regions) c.self.view_is) here

pub returns-in-Some-clause-clauses : goal.returns-in-Some-clause-clauses
returns-in-Some-clause-clauses c kind =
    absurd (clause_absent c.self.inside.decl c.self.inside.regions.regions c.self.inside.regions.room c.args.item c.in-Some._held.now c.self.invariant
    (subst (λ (f : File). MayCome f.decl f.regions c.args.item) (sym c.self.view_is) c.requires) (omega arith)
    (held_from c.self.inside.regions.regions c.args.item.key.bits c.in-Some._held.now c.in-Some.ensures) (ap (λ (f : File). f.decl.kind) c.self.view_is ∙ kind))

pub returns-in-Some-clause-thin : goal.returns-in-Some-clause-thin
returns-in-Some-clause-thin c = same_none_thin c.args.self.now.regions c.args.self.now.regions refl

pub returns-in_err-make_room-clause-thin : goal.returns-in_err-make_room-clause-thin
returns-in_err-make_room-clause-thin c =
    same_none_thin c.args.self.now.regions c.make_room.new.self.regions (c.in_err-make_room.ensures.regions ∙ ap (λ (f : File). f.regions) c.self.view_is)

pub returns-in_err-grow-clause-thin : goal.returns-in_err-grow-clause-thin
returns-in_err-grow-clause-thin c =
    same_none_thin c.args.self.now.regions c.grow.new.regions.regions
    (c.in_err-grow.ensures.err ∙ c.in_ok-make_room.ensures.regions ∙ ap (λ (f : File). f.regions) c.self.view_is)

pub returns-clause-thin : goal.returns-clause-thin
returns-clause-thin c =
    let none : MakesNoneThin c.self.inside.regions.regions c.grow.new.regions.regions =
    subst (λ rs. MakesNoneThin rs c.grow.new.regions.regions) c.in_ok-make_room.ensures.regions c.in_ok-grow.ensures.thin in
    subst (λ rs. MakesNoneThin rs c.grow.new.regions.regions) (ap (λ (f : File). f.regions) c.self.view_is) none
