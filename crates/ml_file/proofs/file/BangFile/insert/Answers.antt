use Rattle.std.proofs.Common.{◌≡◌, true, sym, ap, ◌∙◌, subst}
use Rattle.ml_bits.specs.BitList.{BitList}
use Rattle.ml_key.specs.ItemKeys.{item_key}
use Rattle.ml_region.specs.declared.item.Id.{Id}
use Rattle.ml_search.specs.Db.{is_allowed}
use Rattle.ml_term.specs.Seen.{seen}
use Rattle.ml_file.specs.Adding.{IsPutAs}
use Rattle.ml_file.specs.Files.{File}
use Rattle.ml_file.specs.Inserting.{count_after}
use Rattle.ml_file.specs.Settled.{MakesNoneThin}
use Rattle.ml_file.proofs.KeyableItems.{IsKeyable, keyable}
use Rattle.ml_file.proofs.file.BangFile.insert.Goals as goal

pub key_of-requires-clause-arity : goal.key_of-requires-clause-arity
key_of-requires-clause-arity c =
    let able : IsKeyable c.self.inside.decl.kind c.self.inside.decl.pred.arity (seen c.args.t) =
    keyable c.self.inside.decl (seen c.args.t) (subst (λ (f : File). is_allowed f.decl (seen c.args.t) ≡ true) (sym c.self.view_is) c.requires.allowed) in
    able.has_arguments

pub key_of-requires-clause-small : goal.key_of-requires-clause-small
key_of-requires-clause-small c =
    let able : IsKeyable c.self.inside.decl.kind c.self.inside.decl.pred.arity (seen c.args.t) =
    keyable c.self.inside.decl (seen c.args.t) (subst (λ (f : File). is_allowed f.decl (seen c.args.t) ≡ true) (sym c.self.view_is) c.requires.allowed) in
    able.small

pub inserted_item-item-requires : goal.inserted_item-item-requires
inserted_item-item-requires c =
    let able : IsKeyable c.self.inside.decl.kind c.self.inside.decl.pred.arity (seen c.args.t) =
    keyable c.self.inside.decl (seen c.args.t) (subst (λ (f : File). is_allowed f.decl (seen c.args.t) ≡ true) (sym c.self.view_is) c.requires.allowed) in
    able.valid

pub returns-clause-ok : goal.returns-clause-ok
returns-clause-ok c =
    record {
      item = c.inserted_item-item.result;
      term_is = c.inserted_item-item.ensures.term;
      number_is = c.inserted_item-item.ensures.number;
      key_is = ap (λ (k : BitList). k.bits) (c.inserted_item-item.ensures.key ∙ c.in_ok-key.ensures)
          ∙ ap (λ (f : File). item_key f.decl.kind f.decl.keys (seen c.args.t) c.args.number) c.self.view_is;
      committed = c.inserted_item-item.ensures.committed;
      front = c.inserted_item-item.ensures.front;
      place = ap (λ (i : Id). i.place) c.inserted_item-item.ensures.id;
      change = ap (λ (i : Id). i.change) c.inserted_item-item.ensures.id ∙ ap (λ (f : File). f.added) c.self.view_is;
      done = subst (λ rs. IsPutAs c.in_ok-put.put c.args.self.now.regions c.inserted_item-item.result rs)
          (sym (ap (λ (f : File). f.regions) c.note.ensures)) c.in_ok-put.ensures.ok;
      added = ap (λ (f : File). f.added) c.note.ensures ∙ ap (count_after c.in_ok-put.put) c.in_ok-put.ensures.added;
    }

pub returns-clause-present : goal.returns-clause-present
returns-clause-present c e =
    let middle : File = c.put.new.self in
    c.note.ensures ∙ ap (λ p. record middle { added = count_after p middle.added }) e ∙ c.in_ok-put.ensures.present e

pub returns-clause-thin : goal.returns-clause-thin
returns-clause-thin c = subst (MakesNoneThin c.args.self.now.regions) (sym (ap (λ (f : File). f.regions) c.note.ensures)) c.put.ensures.thin
