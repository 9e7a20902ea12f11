use Rattle.vs_server.proofs.serve.serve_links.Given as goal

abbrev pub ghosts-serve_named : goal.ghosts-serve_named
ghosts-serve_named g a = record { table = a.opened.table; limits = a.opened.limits }
