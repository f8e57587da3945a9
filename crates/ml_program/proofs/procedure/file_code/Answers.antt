use Rattle.std.proofs.Common.{◌≡◌, ◌+◌, ◌^◌, ◌<◌, length, ap, refl, ◌∙◌, ◌++◌, ◌∷◌, [], vec_len, arith, rules}
use Rattle.ml_program.proofs.CodesKept.{written_back, put_behind}
use Rattle.ml_program.proofs.procedure.file_code.Goals as goal

pub returns-in_ok-push-in-Some-clause-places : goal.returns-in_ok-push-in-Some-clause-places
returns-in_ok-push-in-Some-clause-places c =
    let len : vec_len c.index_mut.result.now.codes ≡ length c.index_mut.result.now.codes.items = search rules in
    let room : length c.index_mut.result.now.codes.items + 1 < 2 ^ 32 = omega (arith, c.in_ok-room_for_one-in-Some.ensures, c.len.ensures, len) in
    (written_back c.args.filed.now.places.keys c.args.filed.now.procedures.items c.args.pred c.args.code c.in-Some.place c.index_mut.result.now
    (record { pred = c.index_mut.result.now.pred; codes = c.push.new.self }) c.requires.places c.in-Some.ensures.index c.in-Some.ensures.within
    c.index_mut.ensures.value refl c.in_ok-push-in-Some.ensures.items room c.requires.few).places

pub returns-in_ok-push-in-Some-clause-filed : goal.returns-in_ok-push-in-Some-clause-filed
returns-in_ok-push-in-Some-clause-filed c =
    let len : vec_len c.index_mut.result.now.codes ≡ length c.index_mut.result.now.codes.items = search rules in
    let room : length c.index_mut.result.now.codes.items + 1 < 2 ^ 32 = omega (arith, c.in_ok-room_for_one-in-Some.ensures, c.len.ensures, len) in
    (written_back c.args.filed.now.places.keys c.args.filed.now.procedures.items c.args.pred c.args.code c.in-Some.place c.index_mut.result.now
    (record { pred = c.index_mut.result.now.pred; codes = c.push.new.self }) c.requires.places c.in-Some.ensures.index c.in-Some.ensures.within
    c.index_mut.ensures.value refl c.in_ok-push-in-Some.ensures.items room c.requires.few).filed

pub returns-in_ok-push-in-Some-clause-few : goal.returns-in_ok-push-in-Some-clause-few
returns-in_ok-push-in-Some-clause-few c =
    let len : vec_len c.index_mut.result.now.codes ≡ length c.index_mut.result.now.codes.items = search rules in
    let room : length c.index_mut.result.now.codes.items + 1 < 2 ^ 32 = omega (arith, c.in_ok-room_for_one-in-Some.ensures, c.len.ensures, len) in
    (written_back c.args.filed.now.places.keys c.args.filed.now.procedures.items c.args.pred c.args.code c.in-Some.place c.index_mut.result.now
    (record { pred = c.index_mut.result.now.pred; codes = c.push.new.self }) c.requires.places c.in-Some.ensures.index c.in-Some.ensures.within
    c.index_mut.ensures.value refl c.in_ok-push-in-Some.ensures.items room c.requires.few).few

pub returns-in_ok-push-in-None-2-clause-filed : goal.returns-in_ok-push-in-None-2-clause-filed
returns-in_ok-push-in-None-2-clause-filed c =
    let len : vec_len c.args.filed.now.procedures ≡ length c.args.filed.now.procedures.items = search rules in
    let room : length c.args.filed.now.procedures.items + 1 < 2 ^ 32 = omega (arith, c.in_ok-room_for_one-in-None.ensures, c.len-in-None.ensures, len) in
    let keys = c.args.filed.now.places.keys in
    let p = c.args.pred in
    let codes : c.push-in-None.new.self.items ≡ c.args.code ∷ [] = c.in_ok-push-in-None.ensures.items
    ∙ ap (λ cs. cs ++ c.args.code ∷ []) c.new-first.ensures.items in
    (put_behind keys (keys ++ p ∷ []) c.args.filed.now.procedures.items c.push-in-None-2.new.self.items p p c.args.code
    (record { pred = p; codes = c.push-in-None.new.self }) c.requires.places c.in-None.ensures.index refl refl c.in_ok-push-in-None-2.ensures.items refl codes
    room c.requires.few).filed

pub returns-in_ok-push-in-None-2-clause-few : goal.returns-in_ok-push-in-None-2-clause-few
returns-in_ok-push-in-None-2-clause-few c =
    let len : vec_len c.args.filed.now.procedures ≡ length c.args.filed.now.procedures.items = search rules in
    let room : length c.args.filed.now.procedures.items + 1 < 2 ^ 32 = omega (arith, c.in_ok-room_for_one-in-None.ensures, c.len-in-None.ensures, len) in
    let keys = c.args.filed.now.places.keys in
    let p = c.args.pred in
    let codes : c.push-in-None.new.self.items ≡ c.args.code ∷ [] = c.in_ok-push-in-None.ensures.items
    ∙ ap (λ cs. cs ++ c.args.code ∷ []) c.new-first.ensures.items in
    (put_behind keys (keys ++ p ∷ []) c.args.filed.now.procedures.items c.push-in-None-2.new.self.items p p c.args.code
    (record { pred = p; codes = c.push-in-None.new.self }) c.requires.places c.in-None.ensures.index refl refl c.in_ok-push-in-None-2.ensures.items refl codes
    room c.requires.few).few
