-- Values that may be absent.
use Rattle.std.proofs.Common.{◌≡◌, ap, Bool, true, false, ◌&&◌, is_some, Option, Some, None, Result, Ok, if◌then◌else◌, refl}
use Rattle.mac_layout.specs.Values.{◌>>=◌}

pub some_parts : {A : Type 0} (x y : A) → Some x ≡ Some y → x ≡ y
some_parts x y h = cc

pub some_same : {A : Type 0} (o : Option A) (x y : A) → o ≡ Some x → o ≡ Some y → x ≡ y
some_same o x y p q = cc

pub ok_same : {A B : Type 0} (o : Result A B) (x y : A) → o ≡ Ok x → o ≡ Ok y → x ≡ y
ok_same o x y p q = cc

pub if_some : {A : Type 0} (b : Bool) (o : Option A) (x : A) → (if b then o else None) ≡ Some x → (b ≡ true) × (o ≡ Some x)
if_some true o x h = (refl, h)
if_some false o x h = absurd (cc)

pub if_true : {A : Type 0} (b : Bool) (o : Option A) → b ≡ true → (if b then o else None) ≡ o
if_true true o h = refl
if_true false o h = absurd (cc)

pub bind_some : {A B : Type 0} (o : Option A) (f : A → Option B) (y : B) → (o >>= f) ≡ Some y
    → (x : A) × (o ≡ Some x) × (f x ≡ Some y)
bind_some None f y h = absurd (cc)
bind_some (Some x) f y h = (x, refl, h)

pub bind_at : {A B : Type 0} (o : Option A) (f : A → Option B) (x : A) → o ≡ Some x → (o >>= f) ≡ f x
bind_at o f x h = ap (λ p. p >>= f) h

pub bind_same : {A B : Type 0} (o : Option A) (f g : A → Option B) → ((a : A) → f a ≡ g a) → (o >>= f) ≡ (o >>= g)
bind_same None f g h = refl
bind_same (Some a) f g h = h a

pub is_some_bind : {A B : Type 0} (o : Option A) (f : A → Option B) (b : Bool) → ((a : A) → is_some (f a) ≡ b)
    → is_some (o >>= f) ≡ (is_some o && b)
is_some_bind None f b h = refl
is_some_bind (Some a) f b h = h a

pub known-some : {A : Type 0} (o : Option A) → is_some o ≡ true → (x : A) × (o ≡ Some x)
known-some None h = absurd (cc)
known-some (Some x) h = (x, refl)
