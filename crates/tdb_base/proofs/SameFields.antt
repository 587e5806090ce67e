-- Equal bytes with a field of one length in front have one field and one rest.
use Rattle.std.proofs.Common.{◌≡◌, ℕ, ◌^◌, ◌<◌, List, ◌++◌, length, take, drop, refl, sym, ap, ◌∙◌}
use Rattle.std.specs.Int.{w32, w64, to_be_bytes, from_be_bytes}
use Rattle.std.proofs.lemmas.List.{take_at, drop_at}
use Rattle.std.proofs.lemmas.Nat.{from_be_bytes-to_be_bytes_4, from_be_bytes-to_be_bytes_8}

pub same_front : (a b x y : List ℕ) → length a ≡ length b → a ++ x ≡ b ++ y → (a ≡ b) × (x ≡ y)
same_front a b x y same e = (
  sym (take_at a x (length b) same) ∙ ap (λ (l : List ℕ). take (length b) l) e ∙ take_at b y (length b) refl,
  sym (drop_at a x (length b) same) ∙ ap (λ (l : List ℕ). drop (length b) l) e ∙ drop_at b y (length b) refl,
)

pub same_u32 : (n m : ℕ) (x y : List ℕ) → n < 2 ^ 32 → m < 2 ^ 32 → to_be_bytes w32 n ++ x ≡ to_be_bytes w32 m ++ y → (n ≡ m) × (x ≡ y)
same_u32 n m x y n_fits m_fits e = (
  sym (from_be_bytes-to_be_bytes_4 n n_fits) ∙ ap (λ (l : List ℕ). from_be_bytes w32 (take 4 l)) e ∙ from_be_bytes-to_be_bytes_4 m m_fits,
  ap (λ (l : List ℕ). drop 4 l) e,
)

pub same_u64 : (n m : ℕ) (x y : List ℕ) → n < 2 ^ 64 → m < 2 ^ 64 → to_be_bytes w64 n ++ x ≡ to_be_bytes w64 m ++ y → (n ≡ m) × (x ≡ y)
same_u64 n m x y n_fits m_fits e = (
  sym (from_be_bytes-to_be_bytes_8 n n_fits) ∙ ap (λ (l : List ℕ). from_be_bytes w64 (take 8 l)) e ∙ from_be_bytes-to_be_bytes_8 m m_fits,
  ap (λ (l : List ℕ). drop 8 l) e,
)
