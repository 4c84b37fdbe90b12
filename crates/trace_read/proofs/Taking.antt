-- Fields one after the other.
use Rattle.std.proofs.Common.{◌≡◌, refl, ℕ, List, [], ◌∷◌, Option, Some, None, Result, Ok, Err}
use Rattle.std.specs.Option.{ok_or}
use Rattle.trace_fields.specs.declared.refusal.Cause.{Cause}
use Rattle.trace_fields.specs.Reading.{Fields, ◌>>=◌, taken}

-- the field that was taken, and what was read on
pub record Step {X B : Type 0} (why : Cause) (read : List ℕ → Option X) (fields : Fields) (go : X × Fields → Result B Cause) (r : B) : Type 0 where
  pub field : List ℕ
  pub x : X
  pub rest : Fields
  pub front : fields ≡ field ∷ rest
  pub held : read field ≡ Some x
  pub more : go (x, rest) ≡ Ok r

stepped : {X B : Type 0} (why : Cause) (read : List ℕ → Option X) (field : List ℕ) (rest : Fields) (go : X × Fields → Result B Cause) (r : B) (o : Option X) → read field ≡ o → ((ok_or o why >>= λ x. Ok (x, rest)) >>= go) ≡ Ok r → Step why read (field ∷ rest) go r
stepped why read field rest go r None is h = cc
stepped why read field rest go r (Some x) is h = record { field = field; x = x; rest = rest; front = refl; held = is; more = h }

pub step : {X B : Type 0} (why : Cause) (read : List ℕ → Option X) (fields : Fields) (go : X × Fields → Result B Cause) (r : B) → (taken why read fields >>= go) ≡ Ok r → Step why read fields go r
step why read [] go r h = cc
step why read (field ∷ rest) go r h = stepped why read field rest go r (read field) refl h

pub bind_ok : {A B : Type 0} (read : Result A Cause) (go : A → Result B Cause) (r : B) → (read >>= go) ≡ Ok r → (x : A) × (read ≡ Ok x) × (go x ≡ Ok r)
bind_ok (Ok x) go r h = (x, refl, h)
bind_ok (Err why) go r h = cc

abbrev done : {A : Type 0} → A → Result A Cause
done x = Ok x

pub ok_is : {A : Type 0} (x y : A) → done x ≡ done y → x ≡ y
ok_is x y h = cc
