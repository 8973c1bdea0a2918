-- The quadratic extension of a base field: pairs a + b t with t × t = w.
use Rattle.field.specs.Field.{FieldModel}
use Rattle.extension.specs.declared.extension.Extension.{Extension}

-- a + b t
abbrev pub pair : {B : Type 0} → B → B → Extension B
pair a b = record { a = a; b = b }

-- (a + b t)(a − b t) = a a − w b b, an element of the base
abbrev pub norm : {B : Type 0} → FieldModel B → B → Extension B → B
norm F w x = F.add (F.mul x.a x.a) (F.neg (F.mul w (F.mul x.b x.b)))

-- (a − b t) y, for an element y of the base
abbrev pub conjugate_times : {B : Type 0} → FieldModel B → Extension B → B → Extension B
conjugate_times F x y = pair (F.mul x.a y) (F.mul (F.neg x.b) y)

-- the field of the pairs over a base field with the non-square w
abbrev pub quadratic : {B : Type 0} → FieldModel B → B → FieldModel (Extension B)
quadratic F w = record {
  characteristic = F.characteristic;
  degree = 2;
  limit = F.limit;
  zero = pair F.zero F.zero;
  one = pair F.one F.zero;
  add = λ x y. pair (F.add x.a y.a) (F.add x.b y.b);
  neg = λ x. pair (F.neg x.a) (F.neg x.b);
  mul = λ x y. pair (F.add (F.mul x.a y.a) (F.mul w (F.mul x.b y.b))) (F.add (F.mul x.a y.b) (F.mul x.b y.a));
  inv = λ x. conjugate_times F x (F.inv (norm F w x));
  image = λ n. pair (F.image n) F.zero;
  low = λ x. F.low x.a;
  high = λ x. F.low x.b;
  make = λ l h. pair (F.make l 0) (F.make h 0);
}
