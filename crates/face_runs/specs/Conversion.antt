-- Calls with keys and values of any type, as calls on the numbers that they are written as.
use Rattle.std.specs.Prelude.{◌≡◌, ℕ, Bool, List, Option, Result, Ok, Err, map}
use Rattle.std.specs.Option.{option_map}
use Rattle.std.specs.List.{AllZip}
use Rattle.spec_map.specs.Map.{Pairs}
use Rattle.spec_map.specs.Call.{Call, get, insert, remove, compare_exchange, compute_if_present, compute_or_insert, is_empty, keys, range, nearest, count}
use Rattle.spec_map.specs.Call.{Near, first, last, floor, below, ceiling, above}
use Rattle.spec_map.specs.Call.{Reply, old_value, exchanged, computed, tested, listed, ranged, found, counted}
use Rattle.spec_map.specs.Call.{Answer, replied, refused, Operation}
use Rattle.spec_map.specs.Refusal.{MayRunOut}
use Rattle.spec_map.specs.Legal.{IsLegal}

-- How keys of type K are written as numbers and read, and values of type V as what is stored, of type P. Reading
-- needn't be the inverse of writing.
pub record Conversion (K V P : Type 0) : Type 0 where
  pub key_number : K → ℕ
  pub key_read : ℕ → K
  pub stored : V → P
  pub read : P → V

module _ {K V P : Type 0} (c : Conversion K V P) where
  abbrev pub near_number : Near K → Near ℕ
  near_number first = first
  near_number last = last
  near_number (floor k) = floor (c.key_number k)
  near_number (below k) = below (c.key_number k)
  near_number (ceiling k) = ceiling (c.key_number k)
  near_number (above k) = above (c.key_number k)

  -- a call on the numbers
  abbrev pub converted : Call K V → Call ℕ P
  converted (get k) = get (c.key_number k)
  converted (insert k v) = insert (c.key_number k) (c.stored v)
  converted (remove k) = remove (c.key_number k)
  converted (compare_exchange k old new) =
      compare_exchange (c.key_number k) (c.stored old) (option_map c.stored new)
  converted (compute_if_present k) = compute_if_present (c.key_number k)
  converted (compute_or_insert k) = compute_or_insert (c.key_number k)
  converted is_empty = is_empty
  converted keys = keys
  converted (range a b n) = range (c.key_number a) (c.key_number b) n
  converted (nearest near) = nearest (near_number near)
  converted count = count

  -- A stored value in an answer is read back. But an exchange returns the value that it was given.
  abbrev pub exchange_read : Call K V → Result (Option P) (Option P) → Result (Option V) (Option V)
  exchange_read (compare_exchange k old new) (Ok stored) = Ok new
  exchange_read call (Ok stored) = Ok (option_map c.read stored)
  exchange_read call (Err current) = Err (option_map c.read current)

  abbrev pub pair_read : ℕ × P → K × V
  pair_read pair = (c.key_read pair.0, c.read pair.1)

  abbrev pub reply_read : Call K V → Reply ℕ P P → Reply K V P
  reply_read call (old_value before) = old_value (option_map c.read before)
  reply_read call (exchanged r) = exchanged (exchange_read call r)
  reply_read call (computed r) = computed r
  reply_read call (tested b) = tested b
  reply_read call (listed ks) = listed (map c.key_read ks)
  reply_read call (ranged es) = ranged es
  reply_read call (found pair) = found (option_map pair_read pair)
  reply_read call (counted n) = counted n

  abbrev pub answer_read : Call K V → Answer ℕ P P → Answer K V P
  answer_read call (replied r) = replied (reply_read call r)
  answer_read call refused = refused

  -- an operation on the numbers, read back
  pub record IsReadAs (plain : Operation ℕ P P) (operation : Operation K V P) : Type 0 where
    pub call : plain.call ≡ converted operation.call
    pub asked : plain.asked ≡ operation.asked
    pub answer : operation.answer ≡ answer_read operation.call plain.answer

  -- A legal run of a face: a legal run on the numbers, read back. (`AllZip` is false of lists of different lengths.)
  pub record IsLegalRead (same : P → P → Bool) (r : MayRunOut)
      (m : Pairs P) (operations : List (Operation K V P)) (n : Pairs P) : Type 0 where
    pub plain : List (Operation ℕ P P)
    pub legal : IsLegal same r m plain n
    pub read : AllZip IsReadAs plain operations
