-- Bytes that take-in accepts are the bytes of the rows taken from them.
use Rattle.std.proofs.Common.{◌≡◌, ℕ, zero, suc, ◌+◌, ◌*◌, ◌/◌, ◌%◌, ◌<◌, ◌≤◌, Bool, true, false, cond, eqb, leb, List, [], ◌++◌, length, get_or, take, drop, Ok, Err, Result, sym, refl, ap, ◌∙◌, suc-mul, arith}
use Rattle.std.specs.List.{flat_map}
use Rattle.std.proofs.lemmas.List.{length-drop, get_or-drop, nil_from_length}
use Rattle.std.proofs.lemmas.Bool.{eqb-true, leb-true}
use Rattle.refusals.specs.declared.Refusal.{Refusal}
use Rattle.refusals.specs.declared.Cause.TheVariants.{ArchiveFull, PartialRow}
use Rattle.rows.specs.declared.Row.{Row}
use Rattle.rows.specs.declared.Fault.{Fault}
use Rattle.rows.specs.Format.{reading, bytes_of}
use Rattle.rows.proofs.Found.{writes_back}
use Rattle.rows.proofs.Fronts.{reading_front}
use Rattle.archive.specs.Contents.{Contents, contents, refusing}
use Rattle.archive.specs.Packed.{then_rows, rows_in, places, put}
use Rattle.archive.specs.Intake.{then_read, all_read, then_room, taking_in, entered, TakenAgain}
use Rattle.archive.proofs.Entering.{entered_is}

first_again : (x : Result Row Fault) (n at : ℕ) (bs : List ℕ) → ((i : ℕ) → get_or bs i 0 < 256) → reading bs ≡ x → then_read x at (all_read n (at + 15) (drop 15 bs)) ≡ Ok tt → (all_read n (at + 15) (drop 15 bs) ≡ Ok tt → flat_map bytes_of (rows_in n (drop 15 bs)) ≡ drop 15 bs) → flat_map bytes_of (then_rows x (rows_in n (drop 15 bs))) ≡ bs
first_again (Ok r) n at bs small e ok rest = ap (λ t. bytes_of r ++ t) (rest ok) ∙ writes_back bs r small e
first_again (Err f) n at bs small e ok rest = let z : ◌≡◌ {A = ℕ} 0 1 = cc in absurd (omega arith)

pub rows_again : (n at : ℕ) (bs : List ℕ) → ((i : ℕ) → get_or bs i 0 < 256) → n * 15 ≡ length bs → all_read n at bs ≡ Ok tt → flat_map bytes_of (rows_in n bs) ≡ bs
rows_again zero at bs small l e = sym (nil_from_length bs (omega arith))
rows_again (suc n) at bs small l e =
    let front = reading_front bs in
    let small' : (i : ℕ) → get_or (drop 15 bs) i 0 < 256 = λ i. rw (get_or-drop 15 bs i 0) (small (15 + i)) in
    ap (λ x. flat_map bytes_of (then_rows x (rows_in n (drop 15 bs)))) front
    ∙ first_again (reading bs) n at bs small refl (ap (λ x. then_read x at (all_read n (at + 15) (drop 15 bs))) (sym front) ∙ e)
    (rows_again n (at + 15) (drop 15 bs) small' (omega (arith, length-drop 15 bs, suc-mul n 15)))

first-length : (x : Result Row Fault) (n at : ℕ) (bs : List ℕ) → then_read x at (all_read n (at + 15) (drop 15 bs)) ≡ Ok tt → (all_read n (at + 15) (drop 15 bs) ≡ Ok tt → length (rows_in n (drop 15 bs)) ≡ n) → length (then_rows x (rows_in n (drop 15 bs))) ≡ suc n
first-length (Ok r) n at bs e rest = ap suc (rest e)
first-length (Err f) n at bs e rest = let z : ◌≡◌ {A = ℕ} 0 1 = cc in absurd (omega arith)

pub read_length : (n at : ℕ) (bs : List ℕ) → all_read n at bs ≡ Ok tt → length (rows_in n bs) ≡ n
read_length zero at bs e = refl
read_length (suc n) at bs e = first-length (reading (take 15 bs)) n at bs e (read_length n (at + 15) (drop 15 bs))

room_ok : (b : Bool) (m n : ℕ) → cond b (Ok m) (Err (refusing ArchiveFull 0)) ≡ Ok n → (b ≡ true) × (m ≡ n)
room_ok true m n e = let same : m ≡ n = cc in (refl, same)
room_ok false m n e = let z : ◌≡◌ {A = ℕ} 0 1 = cc in absurd (omega arith)

read_ok : (x : Result (Unit {0}) Refusal) (m n free : ℕ) → then_room x m free ≡ Ok n → (x ≡ Ok tt) × (leb m free ≡ true) × (m ≡ n)
read_ok (Ok u) m n free e = let p = room_ok (leb m free) m n e in (refl, p.0, p.1)
read_ok (Err f) m n free e = let z : ◌≡◌ {A = ℕ} 0 1 = cc in absurd (omega arith)

whole_ok : (b : Bool) (x : Result ℕ Refusal) (n : ℕ) → cond b x (Err (refusing PartialRow 0)) ≡ Ok n → (b ≡ true) × (x ≡ Ok n)
whole_ok true x n e = (refl, e)
whole_ok false x n e = let z : ◌≡◌ {A = ℕ} 0 1 = cc in absurd (omega arith)

-- what is known of bytes that take-in accepts
pub record Accepted (c : Contents) (bs : List ℕ) (n : ℕ) : Type 0 where
  pub count : length bs / 15 ≡ n
  pub size : n * 15 ≡ length bs
  pub read : all_read n 0 bs ≡ Ok tt
  pub room : n ≤ c.free

pub accepted : (c : Contents) (bs : List ℕ) (n : ℕ) → taking_in c bs ≡ Ok n → Accepted c bs n
unfolding taking_in
accepted c bs n e =
    let w = whole_ok (eqb (length bs % 15) 0) _ n e in
    let r = read_ok (all_read (length bs / 15) 0 bs) (length bs / 15) n c.free w.1 in
    record {
      count = r.2;
      size = omega (arith, eqb-true (length bs % 15) 0 w.0, r.2);
      read = ap (λ k. all_read k 0 bs) (sym r.2) ∙ r.0;
      room = omega (arith, leb-true (length bs / 15) c.free r.1, r.2);
    }

pub taken_again : TakenAgain
taken_again c bs n small e = let p = accepted c bs n e in rows_again n 0 bs small p.size p.read

-- bytes taken into an empty byte archive stand at the beginning of its memory
pub taken_to_front : (m bs : List ℕ) (n : ℕ) → ((i : ℕ) → get_or bs i 0 < 256) → taking_in (contents [] (places (length m))) bs ≡ Ok n → entered put m 0 (rows_in (length bs / 15) bs) ≡ bs ++ drop (length bs) m
taken_to_front m bs n small e =
    let p = accepted (contents [] (places (length m))) bs n e in
    let l = read_length n 0 bs p.read in
    let past : (0 + length (rows_in n bs)) * 15 ≡ length bs = omega (arith, l, p.size) in
    let room : n ≤ places (length m) = p.room in
    ap (λ k. entered put m 0 (rows_in k bs)) p.count
    ∙ entered_is m 0 (rows_in n bs) (omega arith)
    ∙ ap (λ t. t ++ drop ((0 + length (rows_in n bs)) * 15) m) (rows_again n 0 bs small p.size p.read)
    ∙ ap (λ k. bs ++ drop k m) past
