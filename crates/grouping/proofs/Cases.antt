-- Facts on one way of a result.
use Rattle.std.proofs.Common.{◌≡◌, Result, Ok, Err, Option, Some, None, refl}
use Rattle.std.specs.Prelude.{IfErr, IfNone, OnOk}

pub on_ok : {A E : Type 0} (r : Result A E) {P Q : Type 0} → OnOk r P → (P → Q) → OnOk r Q
on_ok (Ok x) h next = next h
on_ok (Err e) h next = tt

pub if_err : {A E : Type 0} (r : Result A E) (P Q : E → Type 0) → IfErr r P → ((e : E) → P e → Q e) → IfErr r Q
if_err (Ok x) P Q h next = tt
if_err (Err e) P Q h next = next e h

pub if_none : {A : Type 0} (o : Option A) (P : Type 0) → (◌≡◌ {A = Option A} o None → P) → IfNone o P
if_none (Some x) P h = tt
if_none None P h = h refl
