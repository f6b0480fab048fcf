-- Bytes laid into a buffer one behind the other. Assumes nothing.
use Prim.Native.Nat.{ℕ, ◌+◌, ◌≤◌, ◌<◌}
use native.Mathlib.Omega.{arith}
use native.Mathlib.Nat.{add-zero}
use mathlib.Core.Path.{◌≡◌, refl, sym, ap, ◌∙◌}
use mathlib.Core.List.{List, [], ◌++◌, append_assoc}
use lib.ListN.{length, take, drop, length-append, length-drop, take-append-drop}
use lib.Seq.{length-take-le, take_at, drop_at, drop-drop}
use Rattle.lists.specs.Lists.{chain, laid}
use Rattle.lists.proofs.Laws.{chain_more, chain-room}
use Rattle.leb128.specs.Leb128.{spell}
use Rattle.telegram.specs.Fields.{text}
use Rattle.telegram.specs.declared.field.Part.{Part}
use Rattle.telegram.specs.Meaning.{sized_bytes}
use Rattle.telegram.specs.Writing.{Put, Room}
use Rattle.telegram.proofs.Parts.{length-text}

pub length-laid : (out : List ℕ) (at : ℕ) (b : List ℕ) → Room out at b → length (laid out at b) ≡ length out
length-laid out at b h = simp (length-append, length-take-le at out (omega arith), length-drop) (omega arith)

pub laid_none : (out : List ℕ) (at : ℕ) → laid out at [] ≡ out
laid_none out at = rw add-zero (take-append-drop at out)

-- bytes laid behind bytes
laid_both : (out : List ℕ) (at : ℕ) (a b : List ℕ) → Room out at (a ++ b) → laid (laid out at a) (at + length a) b ≡ laid out at (a ++ b)
laid_both out at a b h =
    let room : at ≤ length out = omega (arith, length-append a b) in
    let first : List ℕ = take at out ++ a in
    let long : length first ≡ at + length a = simp (length-append, length-take-le at out room) in
    let apart : laid out at a ≡ first ++ drop (at + length a) out = sym (append_assoc (take at out) a _) in
    let before : take (at + length a) (laid out at a) ≡ first = rw apart (take_at first _ (at + length a) long) in
    let behind : drop (at + length a + length b) (laid out at a) ≡ drop (at + length a + length b) out =
    rw (
      apart,
      ← drop-drop (length b) (at + length a) (first ++ drop (at + length a) out),
      drop_at first (drop (at + length a) out) (at + length a) long,
    )
    (drop-drop (length b) (at + length a) out)
    in
    let sums : at + length (a ++ b) ≡ at + length a + length b = omega (arith, length-append a b) in
    rw (before, behind, sums, append_assoc a b (drop (at + length a + length b) out)) (append_assoc (take at out) a _)

-- ---- what is put

-- the first of two has room
pub room-first : (out : List ℕ) (at : ℕ) (a b : List ℕ) → Room out at (a ++ b) → Room out at a
room-first out at a b h = omega (arith, length-append a b)

module _ {out mid : List ℕ} {at n : ℕ} {a : List ℕ} where
  pub put_length : Room out at a → Put out mid at a n → length mid ≡ length out
  put_length h p = ap length p.holds ∙ length-laid out at a h

  -- the second of two has room behind the first
  pub room_second : (b : List ℕ) → Room out at (a ++ b) → Put out mid at a n → Room mid n b
  room_second b h p = omega (arith, length-append a b, p.ends, put_length (room-first out at a b h) p)

  -- the second of three
  pub room_between : (b d : List ℕ) → Room out at (a ++ (b ++ d)) → Put out mid at a n → Room mid n b
  room_between b d h p = omega (arith, length-append b d, room_second (b ++ d) h p)

  pub put_then : {after b : List ℕ} {m : ℕ} → Room out at (a ++ b) → Put out mid at a n → Put mid after n b m → Put out after at (a ++ b) m
  put_then {after} {b} {m} h p q = record {
    ends = omega (arith, length-append a b, p.ends, q.ends);
    holds = q.holds ∙ rw (p.holds, p.ends) (laid_both out at a b h);
  }

pub put_none : (out : List ℕ) (at : ℕ) → Put out out at [] at
put_none out at = record { ends = omega arith; holds = sym (laid_none out at) }

-- ---- bytes behind their length

pub sized-text : (s : List ℕ) (p : Part) → p.start + p.len ≤ length s → sized_bytes (text s p) ≡ spell p.len ++ text s p
unfolding sized_bytes
sized-text s p h = rw (length-text s p h)

-- ---- several things put one behind the other

-- f 0 .. f (i - 1), of n, stand in their place
pub record PuttingEach (f : ℕ → List ℕ) (n : ℕ) (before now : List ℕ) (at next i : ℕ) : Type 0 where
  pub within : i ≤ n
  pub room : Room before at (chain n f)
  pub long : length now ≡ length before
  pub so_far : Put before now at (chain i f) next

pub each_none : (f : ℕ → List ℕ) (n : ℕ) (out : List ℕ) (at : ℕ) → Room out at (chain n f) → PuttingEach f n out out at at 0
unfolding chain
each_none f n out at h = record { within = omega arith; room = h; long = refl; so_far = put_none out at }

module _ {f : ℕ → List ℕ} {n : ℕ} {before now : List ℕ} {at next i : ℕ} (p : PuttingEach f n before now at next i) where
  both_room : i < n → Room before at (chain i f ++ f i)
  both_room h = omega (arith, length-append (chain i f) (f i), chain-room i n f h, p.room)

  pub each-room : i < n → Room now next (f i)
  each-room h = room_second (f i) (both_room h) p.so_far

  pub each_more : {after : List ℕ} {m : ℕ} → i < n → Put now after next (f i) m → PuttingEach f n before after at m (i + 1)
  each_more h q = record { within = omega arith; room = p.room; long = put_length (each-room h) q ∙ p.long; so_far = rw (chain_more i f) (put_then (both_room h) p.so_far q) }

  pub each_all : n ≤ i → Put before now at (chain n f) next
  each_all h = let e : n ≡ i = omega (arith, p.within) in rw e p.so_far
