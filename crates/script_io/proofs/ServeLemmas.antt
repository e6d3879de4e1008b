-- Lemmas on serving.
use Rattle.std.proofs.Common.{◌≡◌, ◌++◌, ℕ, List, [], Option, None, Some, take, drop, sym, ap, ◌∙◌, ◌-◌, length, ◌∷◌, subst, arith}
use Rattle.std.proofs.Common.{append_assoc, append-nil, take-append-drop, refl, ◌⊎◌, inl, inr, IfSome, Ok, Err, Result}
use Rattle.std.proofs.lemmas.List.{take_rest}
use Rattle.std.specs.Io.KnownBytes.{Appends, Consumes, IsAtEnd}
use Rattle.std.proofs.KnownBytes.{Appends-trans, Consumes-trans, Appends-nil, Consumes-nil}
use Rattle.script_io.specs.Transcripts.{Transcript, after, closed}
use Rattle.script_io.specs.declared.failures.ServeFailure.{ServeFailure}
use Rattle.script_io.specs.declared.failures.ServeFailure.TheVariants.{Memory}
use Rattle.script_io.specs.Serves.{Goes, Stops, Serves, Tells, Sends, Cuts}

-- ---- writing

-- one text after another
pub after-after : {E : Type 0} (a b : List ℕ) (t : Transcript E) → after a (after b t) ≡ after (a ++ b) t
after-after a b t = ap (λ l. closed l t.ending) (sym (append_assoc a b t.text))

-- what is written up to n is a beginning
pub cut_at : (n : ℕ) (out text : List ℕ) → out ++ text ≡ take n out ++ (drop n out ++ text)
cut_at n out text = ap (λ l. l ++ text) (sym (take-append-drop n out)) ∙ append_assoc (take n out) (drop n out) text

pub cut_in_flush : {E : Type 0} (o o' : Option (List ℕ)) (rest rest' : List ℕ → Transcript E) (old out : List ℕ) (n : ℕ)
    → ((more : List ℕ) → after old (rest more) ≡ after out (rest' more)) → Appends o o' (take n out) → Cuts o o' (λ more. after old (rest more))
cut_in_flush o o' rest rest' old out n follows appended = record {
  sent = take n out;
  appended = appended;
  begins = λ more. (drop n out ++ (rest' more).text, ap (λ t. t.text) (follows more) ∙ cut_at n out (rest' more).text);
}

pub sends_on : {E : Type 0} (o o' o'' : Option (List ℕ)) (rest rest' rest'' : List ℕ → Transcript E) → Sends o o' rest rest'
    → Sends o' o'' rest' rest''
    → Sends o o'' rest rest''
sends_on o o' o'' rest rest' rest'' a b = record {
  sent = a.sent ++ b.sent;
  appended = Appends-trans _ _ _ _ _ a.appended b.appended;
  follows = λ more. a.follows more ∙ ap (after a.sent) (b.follows more) ∙ after-after a.sent b.sent (rest'' more);
}

pub sends_cut : {E : Type 0} (o o' o'' : Option (List ℕ)) (rest rest' : List ℕ → Transcript E) → Sends o o' rest rest' → Cuts o' o'' rest' → Cuts o o'' rest
sends_cut o o' o'' rest rest' a b = record {
  sent = a.sent ++ b.sent;
  appended = Appends-trans _ _ _ _ _ a.appended b.appended;
  begins = λ more.
      ((b.begins more).0, ap (λ t. t.text) (a.follows more) ∙ ap (λ l. a.sent ++ l) (b.begins more).1 ∙ sym (append_assoc a.sent b.sent (b.begins more).0));
}

-- ---- the bytes of a piece

pub sends_front : {E : Type 0} (o o' o'' : Option (List ℕ)) (rest s s' : List ℕ → Transcript E) (old out bytes left : List ℕ)
    (n : ℕ)
    → left ≡ take (length bytes - n) (drop n bytes)
    → Sends o o' rest (λ more. after old (s (bytes ++ more)))
    → Sends o' o'' (λ more. after old (s (bytes ++ more))) (λ more. after out (s' (drop n bytes ++ more)))
    → Sends o o'' rest (λ more. after out (s' (left ++ more)))
sends_front o o' o'' rest s s' old out bytes left n is a b =
    subst (λ l. Sends o o'' rest (λ more. after out (s' (l ++ more)))) (sym (is ∙ take_rest bytes n))
    (sends_on o o' o'' rest (λ more. after old (s (bytes ++ more))) (λ more. after out (s' (drop n bytes ++ more))) a b)

pub sends_end : {E : Type 0} (o o' o'' : Option (List ℕ)) (rest s : List ℕ → Transcript E) (old left : List ℕ) → length left ≡ 0
    → Sends o o' rest (λ more. after old (s (left ++ more))) → Appends o' o'' old → Sends o o'' rest s
sends_end o o' o'' rest s old [] none a b = record {
  sent = a.sent ++ old;
  appended = Appends-trans _ _ _ _ _ a.appended b;
  follows = λ more. a.follows more ∙ after-after a.sent old (s more);
}
sends_end o o' o'' rest s old (x ∷ xs) none a b = absurd (omega arith)

pub end_cut : {E : Type 0} (o o' o'' : Option (List ℕ)) (rest s : List ℕ → Transcript E) (old : List ℕ) (n : ℕ)
    → Sends o o' rest (λ more. after old (s more)) → Appends o' o'' (take n old) → Cuts o o'' rest
end_cut o o' o'' rest s old n a b = record {
  sent = a.sent ++ take n old;
  appended = Appends-trans _ _ _ _ _ a.appended b;
  begins = λ more. (
    drop n old ++ (s more).text,
    ap (λ t. t.text) (a.follows more) ∙ ap (λ l. a.sent ++ l) (cut_at n old (s more).text)
        ∙ sym (append_assoc a.sent (take n old) (drop n old ++ (s more).text)),
  );
}

-- ---- reading and writing

pub cut_stops : {E : Type 0} (i i' o o' : Option (List ℕ)) (rest : List ℕ → Transcript E) (read : List ℕ) → Consumes i i' read
    → Cuts o o' (λ more. rest (read ++ more))
    → Stops i i' o o' rest
cut_stops i i' o o' rest read consumed cut = record {
  read = read;
  sent = cut.sent;
  consumed = consumed;
  appended = cut.appended;
  begins = ((cut.begins []).0, ap (λ l. (rest l).text) (sym (append-nil read)) ∙ (cut.begins []).1);
}

pub goes_on : {E : Type 0} (i i' i'' o o' o'' : Option (List ℕ)) (rest rest' rest'' : List ℕ → Transcript E)
    → Goes i i' o o' rest rest'
    → Goes i' i'' o' o'' rest' rest''
    → Goes i i'' o o'' rest rest''
goes_on i i' i'' o o' o'' rest rest' rest'' a b = record {
  read = a.read ++ b.read;
  sent = a.sent ++ b.sent;
  consumed = Consumes-trans _ _ _ _ _ a.consumed b.consumed;
  appended = Appends-trans _ _ _ _ _ a.appended b.appended;
  follows =
      λ more. ap rest (append_assoc a.read b.read more) ∙ a.follows (b.read ++ more) ∙ ap (after a.sent) (b.follows more)
      ∙ after-after a.sent b.sent (rest'' more);
}

pub goes_stops : {E : Type 0} (i i' i'' o o' o'' : Option (List ℕ)) (rest rest' : List ℕ → Transcript E) → Goes i i' o o' rest rest' → Stops i' i'' o' o'' rest'
    → Stops i i'' o o'' rest
goes_stops i i' i'' o o' o'' rest rest' a b = record {
  read = a.read ++ b.read;
  sent = a.sent ++ b.sent;
  consumed = Consumes-trans _ _ _ _ _ a.consumed b.consumed;
  appended = Appends-trans _ _ _ _ _ a.appended b.appended;
  begins = (b.begins.0, ap (λ t. t.text) (a.follows b.read) ∙ ap (λ l. a.sent ++ l) b.begins.1 ∙ sym (append_assoc a.sent b.sent b.begins.0));
}

-- what is written at a stop after steps that went on, where nothing more is written
pub goes_cut : {E : Type 0} (i i' o o' : Option (List ℕ)) (rest rest' : List ℕ → Transcript E) → Goes i i' o o' rest rest' → Stops i i' o o' rest
goes_cut i i' o o' rest rest' a = record {
  read = a.read;
  sent = a.sent;
  consumed = a.consumed;
  appended = a.appended;
  begins = ((rest' []).text, ap (λ l. (rest l).text) (sym (append-nil a.read)) ∙ ap (λ t. t.text) (a.follows []));
}

-- the last text is written up to n
pub goes_cut_short : {E : Type 0} (i i' o o' o'' : Option (List ℕ)) (rest rest' : List ℕ → Transcript E) (old out : List ℕ)
    (e : E) (n : ℕ)
    → Goes i i' o o' rest rest'
    → old ≡ [] → after old (rest' []) ≡ closed out e → Appends o' o'' (take n out) → Stops i i' o o'' rest
goes_cut_short i i' o o' o'' rest rest' old out e n a empty closes appended = record {
  read = a.read;
  sent = a.sent ++ take n out;
  consumed = a.consumed;
  appended = Appends-trans _ _ _ _ _ a.appended appended;
  begins = (
    drop n out,
    ap (λ l. (rest l).text) (sym (append-nil a.read)) ∙ ap (λ t. t.text) (a.follows [])
        ∙ ap (λ l. a.sent ++ l) (ap (λ l. l ++ (rest' []).text) (sym empty) ∙ ap (λ t. t.text) closes ∙ sym (take-append-drop n out))
        ∙ sym (append_assoc a.sent (take n out) (drop n out)),
  );
}

-- ---- the whole call

pub serves_stopped : {E : Type 0} (i i' o o' : Option (List ℕ)) (rest : List ℕ → Transcript E) (e : ServeFailure)
    → Stops i i' o o' rest
    → Serves rest i i' o o' (Err e)
serves_stopped i i' o o' rest e s = record { read = s.read; sent = s.sent; consumed = s.consumed; appended = s.appended; tells = s.begins; whole = λ q. cc }

-- the transcript of the bytes read is that of the whole input
whole_input : {E : Type 0} (i i' o o' : Option (List ℕ)) (rest rest' : List ℕ → Transcript E) (a : Goes i i' o o' rest rest')
    → (IsAtEnd i' ⊎ ((x y : List ℕ) → rest' x ≡ rest' y)) → IfSome i (λ all. rest all ≡ rest a.read)
whole_input None i' o o' rest rest' a end = tt
whole_input (Some all) None o o' rest rest' a end = absurd a.consumed
whole_input (Some all) (Some more) o o' rest rest' a (inl e) = ap rest (a.consumed ∙ ap (λ l. a.read ++ l) e ∙ append-nil a.read)
whole_input (Some all) (Some more) o o' rest rest' a (inr same) =
    ap rest a.consumed ∙ a.follows more ∙ ap (after a.sent) (same more []) ∙ sym (a.follows []) ∙ ap rest (append-nil a.read)

read_transcript : {E : Type 0} (i i' o o' : Option (List ℕ)) (rest rest' : List ℕ → Transcript E) (old out : List ℕ) (e : E) (a : Goes i i' o o' rest rest')
    → old ≡ [] → after old (rest' []) ≡ closed out e → rest a.read ≡ closed (a.sent ++ out) e
read_transcript i i' o o' rest rest' old out e a empty closes =
    ap rest (sym (append-nil a.read)) ∙ a.follows [] ∙ ap (after a.sent) (ap (λ l. after l (rest' [])) (sym empty) ∙ closes)

pub serves_ended : {E : Type 0} (i i' o o' o'' : Option (List ℕ)) (rest rest' : List ℕ → Transcript E) (old out : List ℕ) (e : E) → Goes i i' o o' rest rest'
    → (IsAtEnd i' ⊎ ((x y : List ℕ) → rest' x ≡ rest' y)) → old ≡ [] → after old (rest' []) ≡ closed out e → Appends o' o'' out → Serves rest i i' o o'' (Ok e)
serves_ended i i' o o' o'' rest rest' old out e a end empty closes appended =
    let t = read_transcript _ _ _ _ rest rest' old out e a empty closes in
    record {
      read = a.read;
      sent = a.sent ++ out;
      consumed = a.consumed;
      appended = Appends-trans _ _ _ _ _ a.appended appended;
      tells = (sym (ap (λ x. x.text) t), ap (λ x. x.ending) t);
      whole = λ q. whole_input i i' o o' rest rest' a end;
    }

-- ---- the same transcript in other words

whole_as : {E : Type 0} (i : Option (List ℕ)) (f t : List ℕ → Transcript E) (read : List ℕ)
    → ((bytes : List ℕ) → f bytes ≡ t bytes)
    → IfSome i (λ all. f all ≡ f read)
    → IfSome i (λ all. t all ≡ t read)
whole_as None f t read same h = h
whole_as (Some all) f t read same h = sym (same all) ∙ h ∙ same read

pub serves_as : {E : Type 0} (f t : List ℕ → Transcript E) (i i' o o' : Option (List ℕ)) (answer : Result E ServeFailure)
    → ((bytes : List ℕ) → f bytes ≡ t bytes)
    → Serves f i i' o o' answer → Serves t i i' o o' answer
serves_as f t i i' o o' answer same s = record {
  read = s.read;
  sent = s.sent;
  consumed = s.consumed;
  appended = s.appended;
  tells = subst (λ x. Tells answer x s.sent) (same s.read) s.tells;
  whole = λ q. whole_as i f t s.read same (s.whole q);
}

-- nothing was read or written
pub serves_nothing : {E : Type 0} (t : List ℕ → Transcript E) (i o : Option (List ℕ)) → Serves t i i o o (Err Memory)
serves_nothing t i o = record {
  read = [];
  sent = [];
  consumed = Consumes-nil i;
  appended = Appends-nil o;
  tells = ((t []).text, refl);
  whole = λ q. cc;
}
