-- A function changed at one place, as a program changes an array.

abbrev pub pick : {A B : Type 0} → Dec A → B → B → B
pick (yes e) x y = x
pick (no h) x y = y

abbrev pub upd : {N B : Type 0} → Discrete N → (N → B) → N → B → N → B
upd dec f x y v = pick (dec v x) y (f v)
