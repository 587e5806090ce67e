-- The laws of the universe of the three classes.
use Rattle.std.specs.Prelude.{◌≡◌, ℕ, ◌<◌, ◌==◌, Bool, true, false, List, [], ◌++◌, length, ◌^◌, Option, None, if◌then◌else◌, drop}
use Rattle.std.proofs.Common.{refl, sym, ap, ◌∙◌, arith, append_assoc}
use Rattle.std.specs.Option.{option_map}
use Rattle.std.specs.Int.{w32, w64, to_be_bytes}
use Rattle.tdb_base.proofs.SameFields.{same_u32, same_u64}
use Rattle.tdb_class.specs.FieldKind.{kind_of_field}
use Rattle.tdb_class.specs.TextBytes.{text_bytes}
use Rattle.tdb_class.proofs.SameText.{same_text}
use Rattle.tdb_class.specs.declared.field.Field.{Field}
use Rattle.tdb_apps.specs.Objects.{AccountFields, IsAccount, LicenceFields, IsLicence}
use Rattle.tdb_apps.specs.Keys.{app_key, app_field_kind}
use Rattle.tdb_apps.specs.Pickle.{app_class, app_pickle, body_bytes, IsApp, ReadsAs, IsNewest}
use Rattle.tdb_apps.specs.declared.app.App.{App}
use Rattle.tdb_apps.specs.declared.app.App.TheVariants.{Note, Account, Licence}

account_of : List ℕ → ℕ → AccountFields
account_of owner balance = record { owner = owner; balance = balance }

licence_of : List ℕ → ℕ → ℕ → LicenceFields
licence_of title limit played = record { title = title; limit = limit; played = played }

same_account : (a b : AccountFields) → IsAccount a → IsAccount b
    → text_bytes a.owner ++ to_be_bytes w64 a.balance ≡ text_bytes b.owner ++ to_be_bytes w64 b.balance → a ≡ b
unfolding account_of
same_account a b is_a is_b e =
    let fits_a : length a.owner < 2 ^ 32 = omega (arith, is_a.owner.1) in
    let fits_b : length b.owner < 2 ^ 32 = omega (arith, is_b.owner.1) in
    let owner = same_text a.owner b.owner (to_be_bytes w64 a.balance) (to_be_bytes w64 b.balance) fits_a fits_b e in
    let balance = same_u64 a.balance b.balance [] [] is_a.balance is_b.balance owner.1 in
    let same : account_of a.owner a.balance ≡ account_of b.owner b.balance = cc (owner.0, balance.0) in
    same

same_licence : (a b : LicenceFields) → IsLicence a → IsLicence b
    → text_bytes a.title ++ to_be_bytes w32 a.limit ++ to_be_bytes w32 a.played
    ≡ text_bytes b.title ++ to_be_bytes w32 b.limit ++ to_be_bytes w32 b.played → a ≡ b
unfolding licence_of
same_licence a b is_a is_b e =
    let numbers : LicenceFields → List ℕ = λ l. to_be_bytes w32 l.limit ++ to_be_bytes w32 l.played in
    let grouped : text_bytes a.title ++ numbers a ≡ text_bytes b.title ++ numbers b =
    sym (append_assoc (text_bytes a.title) (to_be_bytes w32 a.limit) (to_be_bytes w32 a.played))
    ∙ e ∙ append_assoc (text_bytes b.title) (to_be_bytes w32 b.limit) (to_be_bytes w32 b.played) in
    let title_a : length a.title < 2 ^ 32 = omega (arith, is_a.title.1) in
    let title_b : length b.title < 2 ^ 32 = omega (arith, is_b.title.1) in
    let title = same_text a.title b.title (numbers a) (numbers b) title_a title_b grouped in
    let limit = same_u32 a.limit b.limit (to_be_bytes w32 a.played) (to_be_bytes w32 b.played) is_a.limit is_b.limit title.1 in
    let played_a : a.played < 2 ^ 32 = omega (arith, is_a.limit, is_a.played) in
    let played_b : b.played < 2 ^ 32 = omega (arith, is_b.limit, is_b.played) in
    let played = same_u32 a.played b.played [] [] played_a played_b limit.1 in
    let same : licence_of a.title a.limit a.played ≡ licence_of b.title b.limit b.played = cc (title.0, limit.0, played.0) in
    same

-- pickles of one class hold the same
same_body : (x y : App) → app_pickle x ≡ app_pickle y → body_bytes x ≡ body_bytes y
same_body x y e = ap (λ (l : List ℕ). drop 8 l) e

-- pickles of different classes differ
other_class : (m n : ℕ) (x y : List ℕ) → m < 4 → n < 4
    → to_be_bytes w32 m ++ to_be_bytes w32 1 ++ x ≡ to_be_bytes w32 n ++ to_be_bytes w32 1 ++ y → m ≡ n
other_class m n x y m_small n_small e = (same_u32 m n (to_be_bytes w32 1 ++ x) (to_be_bytes w32 1 ++ y) (omega arith) (omega arith) e).0

same_app : (x y : App) → IsApp x → IsApp y → app_pickle x ≡ app_pickle y → x ≡ y
same_app (Note s) (Note t) is_x is_y e =
    let body = ap (λ (l : List ℕ). l ++ []) (same_body (Note s) (Note t) e) in
    ap Note (same_text s t [] [] (omega (arith, is_x.1)) (omega (arith, is_y.1)) body).0
same_app (Account a) (Account b) is_x is_y e = ap Account (same_account a b is_x is_y (same_body (Account a) (Account b) e))
same_app (Licence a) (Licence b) is_x is_y e = ap Licence (same_licence a b is_x is_y (same_body (Licence a) (Licence b) e))
same_app (Note s) (Account b) is_x is_y e = absurd (omega (arith, other_class 1 2 _ _ (omega arith) (omega arith) e))
same_app (Note s) (Licence b) is_x is_y e = absurd (omega (arith, other_class 1 3 _ _ (omega arith) (omega arith) e))
same_app (Account a) (Note t) is_x is_y e = absurd (omega (arith, other_class 2 1 _ _ (omega arith) (omega arith) e))
same_app (Account a) (Licence b) is_x is_y e = absurd (omega (arith, other_class 2 3 _ _ (omega arith) (omega arith) e))
same_app (Licence a) (Note t) is_x is_y e = absurd (omega (arith, other_class 3 1 _ _ (omega arith) (omega arith) e))
same_app (Licence a) (Account b) is_x is_y e = absurd (omega (arith, other_class 3 2 _ _ (omega arith) (omega arith) e))

-- bytes stand for one object
pub one_app : (bytes : List ℕ) (x y : App) → ReadsAs bytes x → ReadsAs bytes y → x ≡ y
one_app bytes x y is_x is_y = same_app x y is_x.in_range is_y.in_range (sym is_x.spelled ∙ is_y.spelled)

-- in the newest version an object has one pickle
pub one_app_pickle : (bytes : List ℕ) (x : App) → ReadsAs bytes x → IsNewest bytes → bytes ≡ app_pickle x
one_app_pickle bytes x is newest = is.spelled

pub app_pickle_is_newest : (x : App) → ReadsAs (app_pickle x) x → IsNewest (app_pickle x)
app_pickle_is_newest x is = refl

kind_of_choice : (b : Bool) (x y : Option Field)
    → option_map kind_of_field (if b then x else y) ≡ (if b then option_map kind_of_field x else option_map kind_of_field y)
kind_of_choice true x y = refl
kind_of_choice false x y = refl

pub app_key_kind : (x : App) (number : ℕ) → option_map kind_of_field (app_key x number) ≡ app_field_kind (app_class x) number
app_key_kind (Note text) number = kind_of_choice (number == 0) _ None
app_key_kind (Account account) number = simp kind_of_choice
app_key_kind (Licence licence) number = simp kind_of_choice
