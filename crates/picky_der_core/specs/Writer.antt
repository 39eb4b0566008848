-- What a write of whole bytes does to the known bytes of a writer.
use Rattle.std.proofs.Common.{◌≡◌, ℕ, ◌+◌, ◌-◌, ◌<◌, ◌≤◌, List, [], ◌++◌, length, Option, Some, None, take, drop}
use Rattle.std.proofs.Common.{drop-drop, refl, sym, ap, subst, ◌∙◌, arith, append_assoc, append-nil, length-append}
use Rattle.std.proofs.Common.{take-append-drop}
use Rattle.std.specs.Io.KnownBytes.{Appends, Keeps}
use Rattle.std.proofs.lemmas.List.{take_rest}
use Rattle.std.proofs.KnownBytes.{Appends-trans, Appends-nil}

-- a beginning of these bytes was appended
pub record AppendsBeginning (old new : Option (List ℕ)) (bs : List ℕ) : Type 0 where
  pub front : List ℕ
  pub rest : List ℕ
  pub is : bs ≡ front ++ rest
  pub appends : Appends old new front

-- a beginning of these bytes was appended, and a byte is missing
pub record AppendsTooFew (old new : Option (List ℕ)) (bs : List ℕ) : Type 0 where
  pub begins : AppendsBeginning old new bs
  pub missing : 0 < length begins.rest

-- the rest of all these bytes is still to be appended
pub record AppendsSoFar (old new : Option (List ℕ)) (all rest : List ℕ) : Type 0 where
  pub done : List ℕ
  pub is : all ≡ done ++ rest
  pub appends : Appends old new done

-- ---- beginnings

pub Appends-keeps : (a b : Option (List ℕ)) → Keeps a b → Appends a b []
Appends-keeps None b h = tt
Appends-keeps (Some xs) None h = h
Appends-keeps (Some xs) (Some ys) h = h ∙ sym (append-nil xs)

-- nothing was appended
pub beginning_none : (a : Option (List ℕ)) (all : List ℕ) → AppendsBeginning a a all
beginning_none a all = record { front = []; rest = all; is = refl; appends = Appends-nil a }

-- something was appended, and then a beginning of the rest
pub beginning_after : (a b c : Option (List ℕ)) (xs ys : List ℕ) → Appends a b xs → AppendsBeginning b c ys
    → AppendsBeginning a c (xs ++ ys)
beginning_after a b c xs ys h r =
    record {
      front = xs ++ r.front;
      rest = r.rest;
      is = ap (λ l. xs ++ l) r.is ∙ sym (append_assoc xs r.front r.rest);
      appends = Appends-trans a b c xs r.front h r.appends;
    }

-- a beginning of the first part is one of the whole
pub beginning_front : (a b : Option (List ℕ)) (xs ys : List ℕ) → AppendsBeginning a b xs
    → AppendsBeginning a b (xs ++ ys)
beginning_front a b xs ys r =
    record {
      front = r.front;
      rest = r.rest ++ ys;
      is = ap (λ l. l ++ ys) r.is ∙ append_assoc r.front r.rest ys;
      appends = r.appends;
    }

-- where a byte is missing in what came after, or in the first part, one is missing in the whole
pub too_few_after : (a b c : Option (List ℕ)) (xs ys : List ℕ) → Appends a b xs → AppendsTooFew b c ys
    → AppendsTooFew a c (xs ++ ys)
unfolding beginning_after
too_few_after a b c xs ys h r = record { begins = beginning_after a b c xs ys h r.begins; missing = r.missing }

pub too_few_front : (a b : Option (List ℕ)) (xs ys : List ℕ) → AppendsTooFew a b xs → AppendsTooFew a b (xs ++ ys)
unfolding beginning_front
too_few_front a b xs ys r = record {
  begins = beginning_front a b xs ys r.begins;
  missing =
      omega (arith, r.missing, length-append r.begins.rest ys);
}

-- none of some bytes was appended
pub too_few_none : (a b : Option (List ℕ)) (all : List ℕ) → 0 < length all → Appends a b [] → AppendsTooFew a b all
too_few_none a b all some h = record {
  begins = record { front = []; rest = all; is = refl; appends = h };
  missing =
      some;
}

-- nothing of a rest that isn't empty was appended
pub too_few_so_far : (a b c : Option (List ℕ)) (all rest : List ℕ) → AppendsSoFar a b all rest → 0 < length rest
    → Appends b c [] → AppendsTooFew a c all
too_few_so_far a b c all rest h some k =
    subst (AppendsTooFew a c) (sym h.is) (too_few_after a b c h.done rest h.appends (too_few_none b c rest some k))

-- the writer accepted n bytes of the rest
pub so_far-more : (n : ℕ) {a b c : Option (List ℕ)} {all rest : List ℕ} → AppendsSoFar a b all rest
    → Appends b c (take n rest) → AppendsSoFar a c all (take (length rest - n) (drop n rest))
so_far-more n {a} {b} {c} {all} {rest} h k = record {
  done = h.done ++ take n rest;
  is = h.is ∙ ap (λ l. h.done ++ l) (sym (take-append-drop n rest))
      ∙ sym (append_assoc h.done (take n rest) (drop n rest))
      ∙ ap (λ l. (h.done ++ take n rest) ++ l) (sym (take_rest rest n));
  appends = Appends-trans a b c h.done (take n rest) h.appends k;
}

-- ---- what lies past the written bytes stays

pub at_least : (n : ℕ) → n ≤ n
at_least n = omega arith

pub at_least_trans : (i j k : ℕ) → i ≤ j → j ≤ k → i ≤ k
at_least_trans i j k a b = omega arith

further : (j k : ℕ) (xs : List ℕ) → j ≤ k → drop (k - j) (drop j xs) ≡ drop k xs
further j k xs h = let e : j + (k - j) ≡ k = omega arith in drop-drop (k - j) j xs ∙ ap (λ n. drop n xs) e

pub later_drop : (j k : ℕ) (xs ys zs : List ℕ) → j ≤ k → drop j ys ≡ drop j xs → drop k zs ≡ drop k ys
    → drop k zs ≡ drop k xs
later_drop j k xs ys zs h e f = f ∙ sym (further j k ys h) ∙ ap (λ l. drop (k - j) l) e ∙ further j k xs h
