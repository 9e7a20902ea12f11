mod Components
