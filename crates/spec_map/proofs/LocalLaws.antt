-- Changes of a map at one key, which go to the part that can hold the key.
use Rattle.std.proofs.Common.{◌≡◌, ℕ, ◌<◌, ◌≤◌, List, ◌++◌}
use Rattle.spec_map.specs.Map.{put, Rises}
use Rattle.spec_map.proofs.JoinLaws.{put-append_left, put-append_right}

module _ {P : Type 0} where
  pub record IsLocal (k : ℕ) (f : List (ℕ × P) → List (ℕ × P)) : Type 0 where
    pub left : (b c : ℕ) (xs ys : List (ℕ × P)) → Rises b c ys → k < b → f (xs ++ ys) ≡ f xs ++ ys
    pub right : (a b : ℕ) (xs ys : List (ℕ × P)) → Rises a b xs → b ≤ k → f (xs ++ ys) ≡ xs ++ f ys

  pub put_local : (k : ℕ) (v : P) → IsLocal k (λ es. put es k v)
  put_local k v = record {
    left = λ b c xs ys r l. put-append_left b c xs ys k v r l;
    right = λ a b xs ys r l. put-append_right a b xs ys k v r l;
  }
