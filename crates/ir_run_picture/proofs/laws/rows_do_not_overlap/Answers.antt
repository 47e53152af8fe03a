use Rattle.ir_run_picture.proofs.laws.rows_do_not_overlap.Goals as goal

pub returns : goal.returns
returns c = λ spans rows h m n y a b less at_m at_n row_m row_n over. (h.each n b y at_n row_n).free
    (record { number = m; other = a; before = less; there = at_m; over = over; row = row_m })
