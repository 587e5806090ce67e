-- What an early exit answers.
use Rattle.std.proofs.Common.{◌≡◌, Result, Ok, Err, IfErr, IfOk, subst}
use Rattle.std.specs.Result.{IsErrAnd}

-- an error that an inner one became
pub if_err_and : {T E : Type 0} (r : Result T E) (P Q : E → Type 0) → IsErrAnd r Q → ((e : E) → Q e → P e) → IfErr r P
if_err_and (Ok x) P Q is holds = tt
if_err_and (Err e) P Q is holds = holds e is

pub if_ok_as : {T E : Type 0} (r : Result T E) (P Q : T → Type 0) → IfOk r P → ((x : T) → P x → Q x) → IfOk r Q
if_ok_as (Ok x) P Q holds weaker = weaker x holds
if_ok_as (Err e) P Q holds weaker = tt

pub if_ok_two : {T E : Type 0} (r : Result T E) (P Q R : T → Type 0) → IfOk r P → IfOk r Q → ((x : T) → P x → Q x → R x) → IfOk r R
if_ok_two (Ok x) P Q R one two then = then x one two
if_ok_two (Err e) P Q R one two then = tt

pub if_err_is : {T E : Type 0} (r : Result T E) (e : E) (P : E → Type 0) → r ≡ Err e → IfErr r P → P e
if_err_is {T} {E} r e P is holds = subst (λ (s : Result T E). IfErr s P) is holds
