-- What holds anyhow holds after `Ok`.
use Rattle.std.specs.Prelude.{Result, Ok, Err, OnOk}

pub on_ok_anyhow : {T E P : Type 0} (r : Result T E) → P → OnOk r P
on_ok_anyhow (Ok x) p = p
on_ok_anyhow (Err e) p = tt
