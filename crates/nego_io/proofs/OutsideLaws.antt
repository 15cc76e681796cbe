-- Calls on an object of the outside, one after another.
use Rattle.std.proofs.Common.{◌≡◌, ◌≢◌, ℕ, ◌+◌, ◌-◌, ◌<◌, ◌≤◌, List, [], ◌++◌, length, take, drop, take-add, Option, Some, None, refl, sym, ◌∙◌, ap, append_assoc, arith}
use Rattle.std.proofs.lemmas.List.{append-nil, length-drop, take-append-drop, take_rest}
use Rattle.nego_io.specs.Outside.{Rose, WhereTold, Takes, Puts, PutsFront}

-- What is told has Q where what is told has P and P gives Q.
pub told_so : (P Q : List ℕ → List ℕ → Type 0) (old new : Option (List ℕ)) → ((before now : List ℕ) → P before now → Q before now) → WhereTold old new P → WhereTold old new Q
told_so P Q old None gives told = tt
told_so P Q None (Some now) gives told = told
told_so P Q (Some before) (Some now) gives told = gives before now told

-- What is told over two calls.
pub told_then : (P Q R : List ℕ → List ℕ → Type 0) (old mid new : Option (List ℕ)) → ((before at now : List ℕ) → P before at → Q at now → R before now) →
    WhereTold old mid P → WhereTold mid new Q → WhereTold old new R
told_then P Q R old mid None gives first second = tt
told_then P Q R old None (Some now) gives first second = absurd second
told_then P Q R None (Some at) (Some now) gives first second = first
told_then P Q R (Some before) (Some at) (Some now) gives first second = gives before at now first second

-- Two facts that are told are told together.
pub told_both : (P Q R : List ℕ → List ℕ → Type 0) (old new : Option (List ℕ)) → ((before now : List ℕ) → P before now → Q before now → R before now) →
    WhereTold old new P → WhereTold old new Q → WhereTold old new R
told_both P Q R old None gives first second = tt
told_both P Q R None (Some now) gives first second = first
told_both P Q R (Some before) (Some now) gives first second = gives before now first second

-- With no call nothing is taken, and nothing is put.
pub takes_none : (old : Option (List ℕ)) → Takes [] old old
takes_none None = tt
takes_none (Some before) = refl

pub puts_none : (old : Option (List ℕ)) → Puts [] old old
puts_none None = tt
puts_none (Some before) = sym (append-nil before)

-- Bytes are taken, and then more.
pub takes_then : (first second : List ℕ) (old mid new : Option (List ℕ)) → Takes first old mid → Takes second mid new → Takes (first ++ second) old new
takes_then first second old mid new =
    told_then (λ before now. before ≡ first ++ now) (λ before now. before ≡ second ++ now) (λ before now. before ≡ (first ++ second) ++ now) old mid new
    (λ before at now e f. e ∙ (ap (λ t. first ++ t) f ∙ sym (append_assoc first second now)))

-- Bytes are put, and then more.
pub puts_then : (first second : List ℕ) (old mid new : Option (List ℕ)) → Puts first old mid → Puts second mid new → Puts (first ++ second) old new
puts_then first second old mid new =
    told_then (λ before now. now ≡ before ++ first) (λ before now. now ≡ before ++ second) (λ before now. now ≡ before ++ (first ++ second)) old mid new
    (λ before at now e f. f ∙ (ap (λ t. t ++ second) e ∙ append_assoc before first second))

-- a count that didn't fall before it rose
pub rose_later : (before at now : ℕ) → before ≤ at → Rose at now → Rose before now
rose_later before at now h r = omega arith

-- something is behind the first bytes where there are more
more_behind : (bytes : List ℕ) (done : ℕ) → done < length bytes → drop done bytes ≢ []
more_behind bytes done within = λ none. omega (arith, length-drop done bytes, ap length none)

-- A call put nothing behind the first bytes, which are not all.
pub put_front : (bytes : List ℕ) (done : ℕ) (old mid new : Option (List ℕ)) → done < length bytes → Puts (take done bytes) old mid → Puts [] mid new → PutsFront bytes old new
put_front bytes done old mid new within first second =
    told_then (λ before now. now ≡ before ++ take done bytes) (λ before now. now ≡ before ++ [])
    (λ before now. (front rest : List ℕ) × (rest ≢ []) × (bytes ≡ front ++ rest) × (now ≡ before ++ front)) old mid new
    (λ before at now e f. (take done bytes, drop done bytes, more_behind bytes done within, sym (take-append-drop done bytes), f ∙ (append-nil at ∙ e))) first second

-- A call put the first bytes of those that were left.
pub put_more : (bytes : List ℕ) (done n : ℕ) (old mid new : Option (List ℕ)) → Puts (take done bytes) old mid → Puts (take n (take (length bytes - done) (drop done bytes))) mid new → Puts (take (done + n) bytes) old new
put_more bytes done n old mid new first second =
    rw take-add (puts_then (take done bytes) (take n (drop done bytes)) old mid new first (rw take_rest at second))
